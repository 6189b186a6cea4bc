-- By the year's slot. Assumes nothing.
use Rattle.slots.specs.Slots.{table, same, is_in, place_in, owner_of, place_of}
use Rattle.cases.specs.Cases.{value_at}
use Rattle.scenario.proofs.values.has_no_guidance.Goals as goal

pub returns : goal.returns
unfolding value_at place_of owner_of place_in is_in same table
returns c = c.is_other_year.ensures
