-- The stay decides. Assumes nothing.
use mathlib.Core.Path.{refl}
use Rattle.pair.specs.Calls.{answer}
use Rattle.media.specs.Media.{mean_media}
use Rattle.media.proofs.mean_concentrations.Goals as goal

pub returns-in-Within : goal.returns-in-Within
unfolding answer mean_media
returns-in-Within c = rw c.in-Within.is refl

pub returns-in-Beyond : goal.returns-in-Beyond
unfolding answer mean_media
returns-in-Beyond c = rw (c.beyond.ensures, c.in-Beyond.is) refl
