-- The difference fits and is not negative, so the cast keeps it. Assumes nothing.
use mir.Facts.{to_z-of_z}
use Rattle.pair.specs.Number.{rise}
use Rattle.pair.proofs.exponent.above.Goals as goal

pub returns : goal.returns
unfolding rise
returns c = simp (to_z-of_z c.ranges.e, to_z-of_z c.ranges.s, to_z-of_z c.requires.sfits)
