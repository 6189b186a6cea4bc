-- `report::report` meets its contract. Assumes nothing.
use mathlib.Core.Path.{refl, sym, ◌∙◌}
use borrow.Author.Rules.{rules}
use Rattle.slots.specs.declared.Sort.TheVariants.{Ordinary}
use Rattle.deck.proofs.ReadLaws.{read_err}
use Rattle.scenario.specs.Scenario.{scenario_with}
use Rattle.report.specs.Report.{ordinary}
use Rattle.report.proofs.CallLaws.{deck_stops, deck_read, answers}
use Rattle.report.proofs.DemandTwo.{ordinary_sounds}
use Rattle.report.proofs.report.Goals as goal

pub returns-in-Err : goal.returns-in-Err
unfolding ordinary
returns-in-Err c =
    let a = c.args in
    let stops = read_err Ordinary a.deck.now _ (sym c.in-Err.is ∙ c.read.ensures.value) in
    let r = deck_stops ordinary a.deck.now a.out.now _ _ _ (sym stops) refl c.tell.ensures in
    record { value = r.0; out_after = r.1 }

pub returns : goal.returns
unfolding ordinary scenario_with
returns c =
    let a = c.args in
    let read = sym c.in-Ok.is ∙ c.read.ensures.value in
    let r = answers ordinary a.deck.now a.out.now _ read (ordinary_sounds.sound a.deck.now (deck_read ordinary a.deck.now a.out.now _ read))
    _ c.entered_from.ensures _ _ c.write_entered.ensures.value c.write_entered.ensures.out_after in
    record { value = r.0; out_after = r.1 }
