-- The ground's air, and produce in the mean soil. Assumes nothing.
use mathlib.Core.Path.{refl}
use Rattle.media.specs.Media.{mean_media}
use Rattle.media.proofs.compartments.beyond.Goals as goal

pub returns : goal.returns
unfolding mean_media
returns c = rw (c.grown.ensures, c.answer.ensures, c.soil_beyond-soil.ensures, c.pair-breathed.ensures) refl
