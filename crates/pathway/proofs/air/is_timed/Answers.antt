-- By how the air is taken, and by the route. Assumes nothing.
use mathlib.Core.Path.{refl}
use Rattle.pathway.specs.Inner.{is_timed}
use Rattle.pathway.specs.Lines.{breathed}
use Rattle.pathway.proofs.air.is_timed.Goals as goal

pub returns-in-Dose : goal.returns-in-Dose
unfolding is_timed breathed
returns-in-Dose c = rw c.in-Dose.is refl

pub returns-in-Time : goal.returns-in-Time
unfolding is_timed breathed
returns-in-Time c = rw c.in-Time.is c.is_inhaled.ensures
