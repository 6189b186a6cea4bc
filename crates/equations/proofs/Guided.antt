-- What holds of each thing that the pathways take by their medium, their route or the year's guidance, holds of what each pathway takes. `by_medium_lem`
-- alone goes through the pathways. Assumes nothing.
use mathlib.Core.Path.{◌≡◌, refl}
use mathlib.Core.Bool.{Bool, true, false, cond}
use Rattle.equations.specs.declared.Pathway.{Pathway}
use Rattle.equations.specs.declared.Pathway.TheVariants.{Air, SoilSummer, SoilWinter, Skin, AboveGround, BelowGround}
use Rattle.equations.specs.Page.{by_medium, by_route, by_guidance}
use Rattle.slots.specs.declared.Guidance.{Guidance}
use Rattle.slots.specs.declared.Guidance.TheVariants.{Of2005, Of2009}

-- what goes together in its medium
pub by_medium_lem : {A B : Type 0} (R : Pathway → A → B → Type 0) {a s f r : A} {a' s' f' r' : B} → R Air a a' → (p : Pathway) → R p s s' → R p f f' → R p r r' → R p (by_medium p a s f r) (by_medium p a' s' f' r')
unfolding by_medium
by_medium_lem R h Air k l m = h
by_medium_lem R h SoilSummer k l m = k
by_medium_lem R h SoilWinter k l m = k
by_medium_lem R h Skin k l m = k
by_medium_lem R h AboveGround k l m = l
by_medium_lem R h BelowGround k l m = m

pub by_route_lem : {A B : Type 0} (R : Pathway → A → B → Type 0) {i o : A} {i' o' : B} → R Air i i' → (p : Pathway) → R p o o' → R p (by_route p i o) (by_route p i' o')
unfolding by_route
by_route_lem R h p k = by_medium_lem R h p k k k

pub on_route : {A : Type 0} (P : A → Type 0) (p : Pathway) (i o : A) → P i → P o → P (by_route p i o)
on_route P p i o h k = by_route_lem (λ q x (t : Bool). P x) {i' = true} {o' = true} h p k

-- what is made of it
pub routed : {A B : Type 0} (f : A → B) (p : Pathway) (i o : A) → f (by_route p i o) ≡ by_route p (f i) (f o)
routed f p i o = by_route_lem (λ q x y. f x ≡ y) refl p refl

-- by a test of the route
pub route_tested : {A : Type 0} (p : Pathway) (i o : A) → by_route p i o ≡ cond (by_route p true false) i o
route_tested p i o = by_route_lem (λ q x (t : Bool). x ≡ cond t i o) refl p refl

-- by the guidance of a year
pub guided : {A : Type 0} (P : A → Type 0) (y : Guidance) (p : Pathway) (in_air intake : A) → P in_air → P intake → P (by_guidance y p in_air intake)
unfolding by_guidance
guided P Of2005 p a b h k = k
guided P Of2009 p a b h k = on_route P p a b h k
