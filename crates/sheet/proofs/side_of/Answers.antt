-- Each effect has its side. Assumes nothing.
use mathlib.Core.Path.{refl}
use Rattle.sheet.specs.Counts.{side_of}
use Rattle.sheet.proofs.side_of.Goals as goal

pub returns-in-Hazard : goal.returns-in-Hazard
unfolding side_of
returns-in-Hazard c = rw c.in-Hazard.is refl

pub returns-in-Cancer : goal.returns-in-Cancer
unfolding side_of
returns-in-Cancer c = rw c.in-Cancer.is refl
