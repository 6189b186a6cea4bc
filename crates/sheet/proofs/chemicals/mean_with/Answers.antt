-- The receptor's exposure and T2. Assumes nothing.
use mathlib.Core.Path.{refl}
use Rattle.slots.specs.Slots.{table, same, is_in, place_in, owner_of, place_of}
use Rattle.sheet.specs.Counts.{mean_with}
use Rattle.sheet.proofs.chemicals.mean_with.Goals as goal

pub returns : goal.returns
unfolding mean_with place_of owner_of place_in is_in same table
returns c = rw (c.mean_concentrations.ensures, c.value.ensures) refl
