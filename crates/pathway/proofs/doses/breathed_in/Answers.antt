-- Its own pair. Assumes nothing.
use mathlib.Core.Path.{refl}
use Rattle.pathway.specs.Lines.{breathed_in}
use Rattle.pathway.proofs.doses.breathed_in.Goals as goal

pub returns : goal.returns
unfolding breathed_in
returns c = rw c.pair.ensures refl
