-- Zero in each. Assumes nothing.
use mathlib.Core.Path.{refl}
use Rattle.pair.specs.Number.{zero}
use Rattle.pair.specs.Calls.{zero_pair}
use Rattle.media.specs.Media.{no_media}
use Rattle.media.proofs.Media.none.Goals as goal

pub returns : goal.returns
unfolding no_media zero_pair zero
returns c = refl
