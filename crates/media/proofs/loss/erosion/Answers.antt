-- The operations in the formula's order. Assumes nothing.
use mathlib.Core.Path.{refl}
use Rattle.equations.specs.Formula.{read, pairs}
use Rattle.equations.specs.Page.{kse}
use Rattle.equations.specs.Readings.{plain, plain_with, letters, inputs, by_owner, value_in}
use Rattle.media.specs.Media.{of_slots}
use Rattle.slots.specs.Slots.{table, same, is_in, place_in, owner_of, place_of}
use Rattle.media.proofs.loss.erosion.Goals as goal

pub returns : goal.returns
unfolding of_slots plain plain_with read letters inputs by_owner value_in owner_of place_of table same is_in place_in pairs kse
returns c = rw (c.over-2.ensures, c.times-3.ensures, c.over.ensures, c.plus-held.ensures, c.at-6.ensures, c.times-layer.ensures, c.at-5.ensures, c.at-4.ensures, c.times-lost.ensures, c.at-3.ensures, c.times-2.ensures, c.at-2.ensures, c.times.ensures, c.at.ensures, c.entry.ensures, c.requires)
    refl
