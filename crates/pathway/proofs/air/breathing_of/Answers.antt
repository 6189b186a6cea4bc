-- By the year's guidance. Assumes nothing.
use mathlib.Core.Path.{refl}
use Rattle.pathway.specs.Lines.{breathed, breathed_by}
use Rattle.pathway.proofs.air.breathing_of.Goals as goal

pub returns-in-Of2005 : goal.returns-in-Of2005
unfolding breathed breathed_by
returns-in-Of2005 c = rw c.in-Of2005.is refl

pub returns-in-Of2009 : goal.returns-in-Of2009
unfolding breathed breathed_by
returns-in-Of2009 c = rw (c.in-Of2009.is, c.in_air_of.ensures) refl
