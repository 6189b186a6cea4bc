-- The slot tD. Assumes nothing.
use Rattle.slots.specs.Slots.{table, same, is_in, place_in, owner_of, place_of}
use Rattle.cases.specs.Cases.{value_at}
use Rattle.scenario.specs.Scenario.{deposition_of}
use Rattle.scenario.proofs.exposure.deposition_of.Goals as goal

pub returns : goal.returns
unfolding deposition_of value_at place_of owner_of place_in is_in same table
returns c = c.time_given.ensures
