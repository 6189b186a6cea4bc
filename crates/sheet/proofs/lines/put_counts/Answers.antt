-- Three stores. Assumes nothing.
use mathlib.Core.Path.{refl}
use Rattle.sheet.specs.Counts.{cell_of}
use Rattle.sheet.specs.Inner.{with_counts}
use Rattle.sheet.proofs.lines.put_counts.Goals as goal

pub returns-in-None : goal.returns-in-None
unfolding with_counts cell_of
returns-in-None c = rw c.in-None.is refl

pub returns-in-Some : goal.returns-in-Some
unfolding with_counts cell_of
returns-in-Some c = rw c.in-Some.is refl
