-- The sum with the last term from 0 on. Assumes nothing.
use mathlib.Core.Path.{◌∙◌}
use Rattle.pair.specs.Number.{zero}
use Rattle.pair.specs.Calls.{after, after_one}
use Rattle.equations.specs.Series.{from_zero}
use Rattle.media.proofs.Passing.{sum_checked}
use Rattle.media.proofs.terms.closed.Goals as goal

pub returns : goal.returns
unfolding after after_one from_zero zero
returns c = (rw (c.of_ends.ensures, c.answer.ensures) at c.plus.ensures) ∙ sum_checked _ _
