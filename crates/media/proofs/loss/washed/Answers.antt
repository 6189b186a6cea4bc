-- Two quotients. Assumes nothing.
use mathlib.Core.Path.{refl}
use Rattle.media.proofs.loss.washed.Goals as goal

pub returns : goal.returns
returns c = rw (c.over-2.ensures, c.over.ensures)
    refl
