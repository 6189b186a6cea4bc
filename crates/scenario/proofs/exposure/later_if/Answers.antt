-- The difference, where the exposure goes beyond the deposition. Assumes nothing.
use mathlib.Core.Path.{refl, ◌∙◌, ap}
use Rattle.pair.specs.Number.{one}
use Rattle.pair.specs.Calls.{one_pair}
use Rattle.scenario.specs.Scenario.{or_no_pair, later_if}
use Rattle.scenario.proofs.exposure.later_if.Goals as goal

pub returns-in-Within : goal.returns-in-Within
unfolding later_if one_pair one
returns-in-Within c = rw c.in-Within.is refl

pub returns-in-Beyond : goal.returns-in-Beyond
unfolding later_if
returns-in-Beyond c = rw c.in-Beyond.is (c.or_no_pair.ensures ∙ ap or_no_pair c.beyond.ensures)
