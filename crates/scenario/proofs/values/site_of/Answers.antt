-- The guidance of the year's slot, and the values of all. Assumes nothing.
use mathlib.Core.Path.{refl}
use Rattle.slots.specs.Slots.{table, same, is_in, place_in, owner_of, place_of}
use Rattle.cases.specs.Cases.{value_at}
use Rattle.scenario.specs.Scenario.{site_of}
use Rattle.scenario.proofs.values.site_of.Goals as goal

pub returns : goal.returns
unfolding site_of value_at place_of owner_of place_in is_in same table
returns c = rw (c.values_of.ensures, c.guidance_of.ensures) refl
