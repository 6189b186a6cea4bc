-- `composite::report` meets its contract. Assumes nothing.
use mathlib.Core.Path.{refl, sym, ◌∙◌}
use borrow.Author.Rules.{rules}
use Rattle.slots.specs.declared.Sort.TheVariants.{Composite}
use Rattle.deck.proofs.ReadLaws.{read_err}
use Rattle.scenario.specs.Scenario.{scenario_with}
use Rattle.report.proofs.CallLaws.{deck_stops, deck_read, answers}
use Rattle.composite.specs.Composite.{composite}
use Rattle.composite.proofs.Demands.{composite_sounds, stages_few}
use Rattle.composite.proofs.report.Goals as goal

pub returns-in-Err : goal.returns-in-Err
unfolding composite
returns-in-Err c =
    let a = c.args in
    let stops = read_err Composite a.deck.now _ (sym c.in-Err.is ∙ c.read.ensures.value) in
    let r = deck_stops composite a.deck.now a.out.now _ _ _ (sym stops) refl c.tell.ensures in
    record { value = r.0; out_after = r.1 }

pub composite_of-requires : goal.composite_of-requires
unfolding composite
composite_of-requires c =
    let a = c.args in
    stages_few a.deck.now a.out.now _ (sym c.in-Ok.is ∙ c.read.ensures.value)

pub returns : goal.returns
unfolding composite scenario_with
returns c =
    let a = c.args in
    let read = sym c.in-Ok.is ∙ c.read.ensures.value in
    let r = answers composite a.deck.now a.out.now _ read (composite_sounds.sound a.deck.now (deck_read composite a.deck.now a.out.now _ read))
    _ c.composite_of.ensures _ _ c.write_entered.ensures.value c.write_entered.ensures.out_after in
    record { value = r.0; out_after = r.1 }
