-- A test that passes on each pathway passes on every one, and so with an effect, a stay and a guidance. Assumes nothing.
use mathlib.Core.Path.{◌≡◌}
use mathlib.Core.Bool.{Bool, true, ◌&&◌}
use mathlib.Core.List.{List, [], ◌∷◌}
use Prim.Native.Nat.{ℕ, zero, suc, ◌<◌}
use native.Mathlib.Nat.{le_of_suc-le-suc, not-suc-le-zero}
use lib.Dec.{lit<}
use lib.ListN.{length, get_or}
use Rattle.lists.proofs.Booleans.{both}
use Rattle.equations.specs.declared.Pathway.{Pathway}
use Rattle.equations.specs.declared.Pathway.TheVariants.{Air, SoilSummer, SoilWinter, Skin, AboveGround, BelowGround}
use Rattle.equations.specs.declared.Effect.{Effect}
use Rattle.equations.specs.declared.Effect.TheVariants.{Hazard, Cancer}
use Rattle.equations.specs.declared.Stay.{Stay}
use Rattle.equations.specs.declared.Stay.TheVariants.{Within, Beyond}
use Rattle.slots.specs.declared.Guidance.{Guidance}
use Rattle.slots.specs.declared.Guidance.TheVariants.{Of2005, Of2009}

unfoldable pub pathways : List Pathway
pathways = Air ∷ SoilSummer ∷ SoilWinter ∷ Skin ∷ AboveGround ∷ BelowGround ∷ []

unfoldable pub passes : (Pathway → Bool) → List Pathway → Bool
passes t [] = true
passes t (p ∷ ps) = t p && passes t ps

passed : (t : Pathway → Bool) (ps : List Pathway) → passes t ps ≡ true → (k : ℕ) → k < length ps → t (get_or ps k Air) ≡ true
unfolding passes
passed t [] h k l = absurd (not-suc-le-zero l)
passed t (p ∷ ps) h zero l = (both (t p) (passes t ps) h).0
passed t (p ∷ ps) h (suc k) l = passed t ps (both (t p) (passes t ps) h).1 k (le_of_suc-le-suc l)

pub on_pathway : (t : Pathway → Bool) → passes t pathways ≡ true → (p : Pathway) → t p ≡ true
unfolding pathways
on_pathway t h Air = passed t pathways h 0 (lit< tt)
on_pathway t h SoilSummer = passed t pathways h 1 (lit< tt)
on_pathway t h SoilWinter = passed t pathways h 2 (lit< tt)
on_pathway t h Skin = passed t pathways h 3 (lit< tt)
on_pathway t h AboveGround = passed t pathways h 4 (lit< tt)
on_pathway t h BelowGround = passed t pathways h 5 (lit< tt)

-- each effect, within the deposition and beyond it
unfoldable pub on_each : (Effect → Stay → Pathway → Bool) → Pathway → Bool
on_each t p = (t Hazard Within p && t Hazard Beyond p) && (t Cancer Within p && t Cancer Beyond p)

pub on_line : (t : Effect → Stay → Pathway → Bool) → passes (on_each t) pathways ≡ true → (e : Effect) (stay : Stay) (p : Pathway) → t e stay p ≡ true
unfolding on_each
on_line t h e stay p = at e stay
  where
    each : ((t Hazard Within p && t Hazard Beyond p) ≡ true) × ((t Cancer Within p && t Cancer Beyond p) ≡ true)
    each = both (t Hazard Within p && t Hazard Beyond p) (t Cancer Within p && t Cancer Beyond p) (on_pathway (on_each t) h p)

    at : (e : Effect) (stay : Stay) → t e stay p ≡ true
    at Hazard Within = (both (t Hazard Within p) (t Hazard Beyond p) each.0).0
    at Hazard Beyond = (both (t Hazard Within p) (t Hazard Beyond p) each.0).1
    at Cancer Within = (both (t Cancer Within p) (t Cancer Beyond p) each.1).0
    at Cancer Beyond = (both (t Cancer Within p) (t Cancer Beyond p) each.1).1

-- and by either guidance
unfoldable pub by_either : (Guidance → Effect → Stay → Pathway → Bool) → Effect → Stay → Pathway → Bool
by_either t e stay p = t Of2005 e stay p && t Of2009 e stay p

pub on_guided : (t : Guidance → Effect → Stay → Pathway → Bool) → passes (on_each (by_either t)) pathways ≡ true → (y : Guidance) (e : Effect) (stay : Stay) (p : Pathway) → t y e stay p ≡ true
unfolding by_either
on_guided t h Of2005 e stay p = (both (t Of2005 e stay p) (t Of2009 e stay p) (on_line (by_either t) h e stay p)).0
on_guided t h Of2009 e stay p = (both (t Of2005 e stay p) (t Of2009 e stay p) (on_line (by_either t) h e stay p)).1
