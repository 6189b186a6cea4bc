-- The two times are compared once. Assumes nothing.
use mathlib.Core.Path.{refl}
use Rattle.scenario.specs.Scenario.{receptor_with}
use Rattle.scenario.proofs.exposure.receptor_with.Goals as goal

pub returns : goal.returns
unfolding receptor_with
returns c = rw (c.later_if-later.ensures, c.stay_if-stay.ensures, c.compare.ensures) refl
