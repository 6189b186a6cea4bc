-- The operations in the formula's order. Assumes nothing.
use mathlib.Core.Path.{refl}
use Rattle.equations.specs.Formula.{read, pairs}
use Rattle.equations.specs.Page.{A}
use Rattle.equations.specs.Readings.{letters, as_answers, worked, inputs, by_owner, value_in}
use Rattle.media.specs.Media.{media_inputs, of_media}
use Rattle.slots.specs.Slots.{table, same, is_in, place_in, owner_of, place_of}
use Rattle.media.proofs.compartments.air.Goals as goal

pub returns : goal.returns
unfolding of_media worked media_inputs as_answers read letters inputs by_owner value_in owner_of place_of table same is_in place_in pairs A
returns c = rw (c.over.ensures, c.entry.ensures, c.times-3.ensures, c.times-2.ensures, c.at-5.ensures, c.at-4.ensures, c.plus-both.ensures, c.times.ensures, c.at-3.ensures, c.answer.ensures, c.times-vapour.ensures, c.at-2.ensures, c.at.ensures)
    refl
