-- `scenario::values::rest_of` meets its contract: by cases of the value. Assumes nothing.
use mathlib.Core.Path.{refl, ap, ◌∙◌}
use Rattle.pair.specs.Number.{zero}
use Rattle.pair.specs.Calls.{zero_pair}
use Rattle.scenario.specs.Scenario.{or_no_pair, rest_of}
use Rattle.scenario.proofs.values.rest_of.Goals as goal

pub returns-in_default : goal.returns-in_default
unfolding rest_of zero_pair zero
returns-in_default c = rw c.in_default.is refl

pub returns : goal.returns
unfolding rest_of
returns c =
    rw c.in-Given.is (c.or_no_pair.ensures ∙ ap or_no_pair (rw c.in-Given.is at c.rested.ensures))
