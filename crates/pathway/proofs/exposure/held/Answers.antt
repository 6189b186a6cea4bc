-- The operations in the formula's order. Assumes nothing.
use mathlib.Core.Path.{refl}
use Rattle.equations.specs.Formula.{read, pairs}
use Rattle.equations.specs.Page.{exposure}
use Rattle.equations.specs.Ahead.{only, a_slot, is_receptors, ahead}
use Rattle.equations.specs.Readings.{plain, plain_with, letters, inputs, by_owner, value_in}
use Rattle.slots.specs.Slots.{table, same, is_in, place_in, owner_of, place_of}
use Rattle.pathway.specs.Lines.{worked_for, worked_of}
use Rattle.pathway.proofs.exposure.held.Goals as goal

pub returns : goal.returns
unfolding worked_for plain plain_with read letters inputs by_owner value_in owner_of place_of table same is_in place_in pairs worked_of exposure ahead is_receptors only a_slot
returns c = rw (c.plus.ensures, c.times-hands.ensures, c.at-4.ensures, c.at-3.ensures, c.times-body.ensures, c.at-2.ensures, c.at.ensures)
    refl
