-- The operations in the formula's order. Assumes nothing.
use mathlib.Core.Path.{refl}
use Rattle.equations.specs.Formula.{read, pairs}
use Rattle.equations.specs.Page.{x}
use Rattle.equations.specs.Readings.{plain, plain_with, letters, inputs, by_owner, value_in}
use Rattle.media.specs.Media.{of_slots}
use Rattle.slots.specs.Slots.{table, same, is_in, place_in, owner_of, place_of}
use Rattle.media.proofs.loss.exponent.Goals as goal

pub returns : goal.returns
unfolding of_slots plain plain_with read letters inputs by_owner value_in owner_of place_of table same is_in place_in pairs x
returns c = rw (c.times.ensures, c.at.ensures, c.loss_rate.ensures)
    refl
