-- Each pathway by its medium. Assumes nothing.
use mathlib.Core.Path.{refl}
use Rattle.equations.specs.Page.{by_medium}
use Rattle.pathway.specs.Lines.{medium_for}
use Rattle.pathway.proofs.doses.medium_of.Goals as goal

pub returns-in-Air : goal.returns-in-Air
unfolding medium_for by_medium
returns-in-Air c = rw (c.breathed_in.ensures, c.in-Air.is) refl

pub returns-in-SoilSummer : goal.returns-in-SoilSummer
unfolding medium_for by_medium
returns-in-SoilSummer c = rw (c.eaten.ensures, c.in-SoilSummer.is) refl

pub returns-in-SoilWinter : goal.returns-in-SoilWinter
unfolding medium_for by_medium
returns-in-SoilWinter c = rw (c.eaten-in-SoilWinter.ensures, c.in-SoilWinter.is) refl

pub returns-in-Skin : goal.returns-in-Skin
unfolding medium_for by_medium
returns-in-Skin c = rw (c.eaten-in-Skin.ensures, c.in-Skin.is) refl

pub returns-in-AboveGround : goal.returns-in-AboveGround
unfolding medium_for by_medium
returns-in-AboveGround c = rw (c.eaten-in-AboveGround.ensures, c.in-AboveGround.is) refl

pub returns-in-BelowGround : goal.returns-in-BelowGround
unfolding medium_for by_medium
returns-in-BelowGround c = rw (c.eaten-in-BelowGround.ensures, c.in-BelowGround.is) refl
