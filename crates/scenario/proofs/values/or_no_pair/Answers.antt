-- `scenario::values::or_no_pair` meets its contract: by cases of the answer. Assumes nothing.
use mathlib.Core.Path.{refl, ◌∙◌}
use Rattle.pair.specs.Calls.{answer}
use Rattle.scenario.specs.Scenario.{or_no_pair}
use Rattle.scenario.proofs.values.or_no_pair.Goals as goal

pub returns-in_default : goal.returns-in_default
unfolding or_no_pair answer
returns-in_default c = c.no_pair.ensures ∙ rw c.in_default.is refl

pub returns : goal.returns
unfolding or_no_pair answer
returns c = rw c.in-Ok.is refl
