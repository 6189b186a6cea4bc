-- `scenario::values::pair_of` meets its contract: by cases of the value. Assumes nothing.
use mathlib.Core.Path.{refl, ap, ◌∙◌}
use Rattle.pair.specs.Number.{one}
use Rattle.pair.specs.Calls.{one_pair}
use Rattle.scenario.specs.Scenario.{or_no_pair, pair_of}
use Rattle.scenario.proofs.values.pair_of.Goals as goal

pub returns-in_default : goal.returns-in_default
unfolding pair_of one_pair one
returns-in_default c = rw c.in_default.is refl

pub returns : goal.returns
unfolding pair_of
returns c =
    rw c.in-Given.is (c.or_no_pair.ensures ∙ ap or_no_pair (rw c.in-Given.is at c.entered.ensures))
