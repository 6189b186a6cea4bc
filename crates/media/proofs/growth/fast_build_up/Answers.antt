-- By the page, with 1 / φ next to nothing. Assumes nothing.
use mathlib.Core.Path.{refl}
use Rattle.equations.specs.Page.{growth}
use Rattle.equations.specs.Readings.{pair_growing}
use Rattle.media.proofs.growth.fast_build_up.Goals as goal

pub returns : goal.returns
unfolding growth pair_growing
returns c = rw (c.build_up.ensures, c.next_to_nothing.ensures) refl
