-- The operations in the formula's order. Assumes nothing.
use mathlib.Core.Path.{refl}
use Rattle.slots.specs.Slots.{table, same, is_in, place_in, owner_of, place_of}
use Rattle.equations.specs.Formula.{read, pairs}
use Rattle.equations.specs.Page.{u, ksr, ksl, k}
use Rattle.equations.specs.Readings.{plain, plain_with, letters, inputs, by_owner, value_in}
use Rattle.media.specs.Media.{of_slots}
use Rattle.media.proofs.loss.loss_rate.Goals as goal

pub erosion-requires : goal.erosion-requires
unfolding of_slots plain plain_with read letters inputs by_owner value_in owner_of place_of table same is_in place_in pairs u
erosion-requires c = rw (c.times-sorbed.ensures, c.at-2.ensures, c.at.ensures) refl

pub returns : goal.returns
unfolding of_slots plain plain_with read letters inputs by_owner value_in owner_of place_of table same is_in place_in pairs k u ksr ksl
returns c = rw (c.plus-4.ensures, c.at-7.ensures, c.plus-3.ensures, c.washed-2.ensures, c.at-6.ensures, c.plus-2.ensures, c.washed.ensures, c.at-5.ensures, c.plus.ensures, c.erosion.ensures, c.at-4.ensures, c.plus-retained.ensures, c.over.ensures, c.entry.ensures, c.times-water.ensures, c.at-3.ensures, c.times-sorbed.ensures, c.at-2.ensures, c.at.ensures, c.at-theta.ensures)
    refl
