-- `scenario::memory::is_unpaired` meets its contract: by cases of the value and of its entry. Assumes nothing.
use mathlib.Core.Path.{refl, sym, ap, ◌∙◌}
use Rattle.pair.specs.Calls.{answer}
use Rattle.scenario.specs.Scenario.{is_unpaired}
use Rattle.scenario.proofs.ValueLaws.{refused_is, told_not}
use Rattle.scenario.proofs.memory.is_unpaired.Goals as goal

pub returns-in_default : goal.returns-in_default
unfolding is_unpaired
returns-in_default c = rw c.in_default.is refl

pub returns-in_default-entered : goal.returns-in_default-entered
unfolding is_unpaired answer
returns-in_default-entered c =
    rw c.in-Given.is (refused_is _ 53 (sym (rw c.in-Given.is at c.entered.ensures) ∙ ap answer c.in_default-entered.is))

pub returns : goal.returns
unfolding is_unpaired answer
returns c =
    rw c.in-Given.is (told_not _ _ (sym (rw c.in-Given.is at c.entered.ensures) ∙ ap answer c.in-Ok.is))
