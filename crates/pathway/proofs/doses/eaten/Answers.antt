-- Its own pair. Assumes nothing.
use mathlib.Core.Path.{refl}
use Rattle.pathway.specs.Lines.{eaten}
use Rattle.pathway.proofs.doses.eaten.Goals as goal

pub returns : goal.returns
unfolding eaten
returns c = rw c.pair.ensures refl
