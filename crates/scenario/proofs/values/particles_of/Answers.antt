-- What 1 leaves of the slot Fv. Assumes nothing.
use Rattle.slots.specs.Slots.{table, same, is_in, place_in, owner_of, place_of}
use Rattle.cases.specs.Cases.{value_at}
use Rattle.scenario.specs.Scenario.{particles_of}
use Rattle.scenario.proofs.values.particles_of.Goals as goal

pub returns : goal.returns
unfolding particles_of value_at place_of owner_of place_in is_in same table
returns c = c.rest_of.ensures
