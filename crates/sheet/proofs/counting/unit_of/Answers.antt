-- Each effect has its unit. Assumes nothing.
use mathlib.Core.Path.{refl}
use Rattle.sheet.specs.Sheet.{unit_of}
use Rattle.sheet.proofs.counting.unit_of.Goals as goal

pub returns-in-Hazard : goal.returns-in-Hazard
unfolding unit_of
returns-in-Hazard c = rw c.in-Hazard.is refl

pub returns-in-Cancer : goal.returns-in-Cancer
unfolding unit_of
returns-in-Cancer c = rw c.in-Cancer.is refl
