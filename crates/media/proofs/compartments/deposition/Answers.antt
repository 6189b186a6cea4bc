-- The operations in the formula's order. Assumes nothing.
use mathlib.Core.Path.{refl}
use Rattle.equations.specs.Formula.{read, pairs}
use Rattle.equations.specs.Page.{D}
use Rattle.equations.specs.Readings.{letters, as_answers, worked, inputs, by_owner, value_in}
use Rattle.media.specs.Media.{media_inputs, of_media}
use Rattle.slots.specs.Slots.{table, same, is_in, place_in, owner_of, place_of}
use Rattle.media.proofs.compartments.deposition.Goals as goal

pub returns : goal.returns
unfolding of_media worked media_inputs as_answers read letters inputs by_owner value_in owner_of place_of table same is_in place_in pairs D
returns c = rw (c.times-4.ensures, c.over.ensures, c.times-3.ensures, c.at-9.ensures, c.times-2.ensures, c.at-8.ensures, c.entry.ensures, c.times-layer.ensures, c.at-7.ensures, c.at-6.ensures, c.plus-both.ensures, c.times.ensures, c.answer.ensures, c.plus-fallen.ensures, c.at-5.ensures, c.at-4.ensures, c.times-vapour.ensures, c.plus.ensures, c.at-3.ensures, c.at-2.ensures, c.at.ensures)
    refl
