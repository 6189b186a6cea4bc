-- Three steps of a chain, each ×. Assumes nothing.
use mathlib.Core.Path.{◌∙◌}
use Rattle.pair.specs.Promises.{operation_of, call}
use Rattle.pair.proofs.ChainPromises.{through_is}
use Rattle.pathway.proofs.exposure.Intake.times_three.Goals as goal

pub returns : goal.returns
unfolding operation_of call
returns c = c.through.ensures ∙ through_is _ _ _ _ _ _ _
