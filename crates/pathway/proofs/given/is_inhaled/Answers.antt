-- The air alone. Assumes nothing.
use mathlib.Core.Path.{◌≡◌, refl}
use mathlib.Core.Bool.{true, false}
use Rattle.equations.specs.declared.Pathway.{Pathway}
use Rattle.equations.specs.declared.Pathway.TheVariants.{Air, SoilSummer, SoilWinter, Skin, AboveGround, BelowGround}
use Rattle.equations.specs.Page.{by_medium, by_route}
use Rattle.pathway.proofs.given.is_inhaled.Goals as goal

pub returns-in-Air : goal.returns-in-Air
unfolding by_route by_medium
returns-in-Air c = rw c.in-Air.is refl

by_mouth : (p : Pathway) → (p ≡ Air → ⊥) → false ≡ by_route p true false
unfolding by_route by_medium
by_mouth Air h = absurd (h refl)
by_mouth SoilSummer h = refl
by_mouth SoilWinter h = refl
by_mouth Skin h = refl
by_mouth AboveGround h = refl
by_mouth BelowGround h = refl

pub returns-in_default : goal.returns-in_default
returns-in_default c = by_mouth c.args.pathway c.in_default.not-Air
