-- The operations in the formula's order. Assumes nothing.
use mathlib.Core.Path.{refl}
use Rattle.equations.specs.Formula.{pairs}
use Rattle.media.proofs.growth.slow_build_up.Goals as goal

pub returns : goal.returns
unfolding pairs
returns c = rw (c.build_up.ensures, c.over.ensures, c.entry-one.ensures) refl
