-- `scenario::ordinary::enter` meets its contract. Assumes nothing.
use mathlib.Core.Path.{refl}
use Rattle.slots.specs.Slots.{table, same, is_in, place_in, owner_of, place_of}
use Rattle.cases.specs.Cases.{value_at}
use Rattle.scenario.specs.Scenario.{entered}
use Rattle.scenario.proofs.ordinary.enter.Goals as goal

pub returns : goal.returns
unfolding entered value_at place_of owner_of place_in is_in same table
returns c = rw (c.receptor_with.ensures, c.time_given.ensures, c.values_if.ensures, c.lacks.ensures) refl
