-- The operations in the formula's order. Assumes nothing.
use mathlib.Core.Path.{refl}
use Rattle.equations.specs.Formula.{pairs}
use Rattle.equations.specs.Page.{g_with}
use Rattle.media.proofs.growth.build_up.Goals as goal

pub returns : goal.returns
unfolding g_with pairs
returns c = rw (c.over.ensures, c.plus.ensures, c.answer.ensures, c.entry.ensures) refl
