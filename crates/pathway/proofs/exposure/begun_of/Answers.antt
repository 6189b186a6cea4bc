-- Each pathway's beginning, in its order. Assumes nothing.
use mathlib.Core.Path.{refl}
use Rattle.equations.specs.Formula.{read, pairs}
use Rattle.equations.specs.Page.{exposure}
use Rattle.equations.specs.Ahead.{only, a_slot, is_receptors, ahead}
use Rattle.equations.specs.Readings.{plain, plain_with, letters, inputs, by_owner, value_in}
use Rattle.slots.specs.Slots.{table, same, is_in, place_in, owner_of, place_of}
use Rattle.pathway.specs.Lines.{worked_for, worked_of}
use Rattle.pathway.proofs.exposure.begun_of.Goals as goal

pub returns-in-Air : goal.returns-in-Air
unfolding worked_for plain plain_with read letters inputs by_owner value_in owner_of place_of table same is_in place_in pairs worked_of exposure ahead is_receptors only a_slot
returns-in-Air c = rw (c.at.ensures, c.in-Air.is)
    refl

pub returns-in-SoilSummer : goal.returns-in-SoilSummer
unfolding worked_for plain plain_with read letters inputs by_owner value_in owner_of place_of table same is_in place_in pairs worked_of exposure ahead is_receptors only a_slot
returns-in-SoilSummer c = rw (c.at-in-SoilSummer.ensures, c.in-SoilSummer.is)
    refl

pub returns-in-SoilWinter : goal.returns-in-SoilWinter
unfolding worked_for plain plain_with read letters inputs by_owner value_in owner_of place_of table same is_in place_in pairs worked_of exposure ahead is_receptors only a_slot
returns-in-SoilWinter c = rw (c.at-in-SoilWinter.ensures, c.in-SoilWinter.is)
    refl

pub returns-in-Skin : goal.returns-in-Skin
unfolding worked_for plain plain_with read letters inputs by_owner value_in owner_of place_of table same is_in place_in pairs worked_of exposure ahead is_receptors only a_slot
returns-in-Skin c = rw c.in-Skin.is
    c.held.ensures

pub returns-in-AboveGround : goal.returns-in-AboveGround
unfolding worked_for plain plain_with read letters inputs by_owner value_in owner_of place_of table same is_in place_in pairs worked_of exposure ahead is_receptors only a_slot
returns-in-AboveGround c = rw (c.times-in-AboveGround.ensures, c.at-in-AboveGround-3.ensures, c.times.ensures, c.at-in-AboveGround-2.ensures, c.at-in-AboveGround.ensures, c.in-AboveGround.is)
    refl

pub returns-in-BelowGround : goal.returns-in-BelowGround
unfolding worked_for plain plain_with read letters inputs by_owner value_in owner_of place_of table same is_in place_in pairs worked_of exposure ahead is_receptors only a_slot
returns-in-BelowGround c = rw (c.times-in-BelowGround-2.ensures, c.at-in-BelowGround-3.ensures, c.times-in-BelowGround.ensures, c.at-in-BelowGround-2.ensures, c.at-in-BelowGround.ensures, c.in-BelowGround.is)
    refl
