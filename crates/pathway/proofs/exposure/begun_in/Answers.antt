-- Worked ahead, or the receptor's own value. Assumes nothing.
use mathlib.Core.Path.{refl}
use Rattle.pathway.specs.Lines.{shared, begun_in}
use Rattle.pathway.proofs.exposure.begun_in.Goals as goal

pub returns-in-Air : goal.returns-in-Air
unfolding begun_in
returns-in-Air c = rw c.in-Air.is
    c.begun_of.ensures

pub returns-in-SoilSummer : goal.returns-in-SoilSummer
unfolding begun_in
returns-in-SoilSummer c = rw c.in-SoilSummer.is
    c.begun_of-in-SoilSummer.ensures

pub returns-in-SoilWinter : goal.returns-in-SoilWinter
unfolding begun_in
returns-in-SoilWinter c = rw c.in-SoilWinter.is
    c.begun_of-in-SoilWinter.ensures

pub returns-in-Skin : goal.returns-in-Skin
unfolding begun_in shared
returns-in-Skin c = rw c.in-Skin.is
    refl

pub returns-in-AboveGround : goal.returns-in-AboveGround
unfolding begun_in shared
returns-in-AboveGround c = rw c.in-AboveGround.is
    refl

pub returns-in-BelowGround : goal.returns-in-BelowGround
unfolding begun_in shared
returns-in-BelowGround c = rw c.in-BelowGround.is
    refl
