-- Each pathway by its own function. Assumes nothing.
use Rattle.slots.specs.Slots.{table, same, is_in, owner_of}
use Rattle.equations.specs.Formula.{read}
use Rattle.equations.specs.Page.{exposure}
use Rattle.equations.specs.Readings.{by_owner}
use Rattle.equations.specs.Ahead.{only, a_slot, is_receptors, read_from, plain_from}
use Rattle.pathway.specs.Lines.{exposure_from}
use Rattle.pathway.proofs.exposure.Intake.exposure.Goals as goal

pub returns-in-Air : goal.returns-in-Air
returns-in-Air c = rw c.in-Air.is
    c.air.ensures

pub returns-in-SoilSummer : goal.returns-in-SoilSummer
returns-in-SoilSummer c = rw c.in-SoilSummer.is
    c.soil_summer.ensures

pub returns-in-SoilWinter : goal.returns-in-SoilWinter
returns-in-SoilWinter c = rw c.in-SoilWinter.is
    c.soil_winter.ensures

pub returns-in-Skin : goal.returns-in-Skin
returns-in-Skin c = rw c.in-Skin.is
    c.skin.ensures

pub returns-in-AboveGround : goal.returns-in-AboveGround
returns-in-AboveGround c = rw c.in-AboveGround.is
    c.produce.ensures

pub returns-in-BelowGround : goal.returns-in-BelowGround
unfolding exposure_from plain_from read_from is_receptors only a_slot read by_owner owner_of table same is_in exposure
returns-in-BelowGround c = rw c.in-BelowGround.is
    c.produce-in-BelowGround.ensures
