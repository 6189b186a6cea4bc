-- What a receptor's lines share is what their formulas begin with, so that with a receptor's own habits its lines' factors are the page's; and a
-- dose is the product of the pairs of its factor and its medium. Assumes nothing.
use mathlib.Core.Path.{◌≡◌, refl, sym, ◌∙◌, ap, ap₂}
use mathlib.Core.Bool.{Bool, true, false, cond, ◌||◌, false≢true}
use Prim.Native.Nat.{ℕ}
use lib.Dec.{eqb}
use borrow.Author.Tests.{eqb-true}
use Rattle.pair.specs.declared.Pair.{Pair}
use Rattle.pair.specs.Calls.{Outcome, is, mapped, after, product, quotient}
use Rattle.equations.specs.declared.Pathway.{Pathway}
use Rattle.equations.specs.declared.Pathway.TheVariants.{Air, SoilSummer, SoilWinter, Skin, AboveGround, BelowGround}
use Rattle.equations.specs.declared.Effect.{Effect}
use Rattle.equations.specs.declared.Effect.TheVariants.{Hazard, Cancer}
use Rattle.equations.specs.declared.Values.{Values}
use Rattle.equations.specs.Formula.{read, pairs}
use Rattle.equations.specs.Page.{AT, B, exposure, factor, by_medium}
use Rattle.equations.specs.Ahead.{only, a_slot, is_receptors, ahead, plain_from}
use Rattle.equations.proofs.Guided.{by_medium_lem}
use Rattle.equations.proofs.Pathways.{pathways, passes, on_pathway}
use Rattle.equations.proofs.AheadLaws.{plain_same, plain_ahead}
use Rattle.equations.specs.Readings.{plain, plain_with, letters, inputs, by_owner, value_in, no_values}
use Rattle.media.specs.declared.Media.{Media}
use Rattle.slots.specs.declared.Guidance.{Guidance}
use Rattle.slots.specs.declared.Owner.{Owner}
use Rattle.slots.specs.declared.Owner.TheVariants.{Site, Chemical, Receptor}
use Rattle.slots.specs.Slots.{Slot, table, same, is_in, place_in, owner_of, place_of}
use Rattle.pathway.specs.declared.Factor.{Factor}
use Rattle.pathway.specs.declared.Dose.{Dose}
use Rattle.pathway.specs.declared.Medium.{Medium}
use Rattle.pathway.specs.Lines.{worked_for, factor_of, breathed_in, eaten, medium_for, dose_for, worked_of, absorbed_of, share_at, taken_in, exposure_from, habits_of, base_in, begun_in, exposure_with, factor_with}
use Rattle.pathway.proofs.Carried.{pair_back}

-- a receptor's letters are read alike with any site and chemical
pub base_alike : (s c r : Values) (e : Effect) → worked_of r (B e) ≡ worked_for s c r (B e)
unfolding worked_of worked_for plain plain_with read letters inputs by_owner value_in owner_of place_of table same is_in place_in pairs B AT
base_alike s c r Hazard = refl
base_alike s c r Cancer = refl

-- what is worked ahead has a receptor's letters alone, and an exposure none of a chemical's but the shares absorbed
ahead_own : (p : Pathway) → is_receptors (ahead (exposure p)) ≡ true
unfolding passes pathways is_receptors only a_slot ahead exposure by_owner owner_of table same is_in
ahead_own = on_pathway (λ p. is_receptors (ahead (exposure p))) refl

is_share : ℕ → Bool
is_share k = eqb k (place_of "AFinh") || (eqb k (place_of "AForal") || eqb k (place_of "AFderm"))

is_taken : Slot → Bool
is_taken n = by_owner (owner_of n) true (is_share (place_of n)) true

all_taken : (p : Pathway) → only (a_slot is_taken) (exposure p) ≡ true
unfolding passes pathways only a_slot is_taken is_share exposure by_owner owner_of place_of table same is_in place_in
all_taken = on_pathway (λ p. only (a_slot is_taken) (exposure p)) refl

share_is : (c : Values) (k : ℕ) → is_share k ≡ true → share_at (absorbed_of c) k ≡ value_in c k
unfolding is_share share_at absorbed_of
share_is c k h = at (eqb k (place_of "AFinh")) (eqb k (place_of "AForal")) (eqb k (place_of "AFderm")) refl refl refl h
  where
    at : (t u v : Bool) → eqb k (place_of "AFinh") ≡ t → eqb k (place_of "AForal") ≡ u → eqb k (place_of "AFderm") ≡ v → (t || (u || v)) ≡ true →
        cond t (value_in c (place_of "AFinh")) (cond u (value_in c (place_of "AForal")) (value_in c (place_of "AFderm"))) ≡ value_in c k
    at true u v a b d g = ap (value_in c) (sym (eqb-true k (place_of "AFinh") a))
    at false true v a b d g = ap (value_in c) (sym (eqb-true k (place_of "AForal") b))
    at false false true a b d g = ap (value_in c) (sym (eqb-true k (place_of "AFderm") d))
    at false false false a b d g = absurd (false≢true g)

module _ (s c r : Values) where
  abbrev taken : Slot → Outcome Pair
  taken = λ n. is (taken_in s (absorbed_of c) r n)

  own_taken : (n : Slot) → by_owner (owner_of n) false false true ≡ true → is (inputs no_values no_values r n) ≡ taken n
  unfolding inputs taken_in
  own_taken n h = at (owner_of n) h
    where
      at : (o : Owner) → by_owner o false false true ≡ true → is (value_in (by_owner o no_values no_values r) (place_of n)) ≡ is (by_owner o (value_in s (place_of n)) (share_at (absorbed_of c) (place_of n)) (value_in r (place_of n)))
      at Site t = absurd (false≢true (unfold by_owner in t))
      at Chemical t = absurd (false≢true (unfold by_owner in t))
      at Receptor t = unfold by_owner in refl

  taken_is : (n : Slot) → is_taken n ≡ true → taken n ≡ is (inputs s c r n)
  unfolding inputs taken_in is_taken
  taken_is n h = at (owner_of n) h
    where
      at : (o : Owner) → by_owner o true (is_share (place_of n)) true ≡ true → is (by_owner o (value_in s (place_of n)) (share_at (absorbed_of c) (place_of n)) (value_in r (place_of n))) ≡ is (value_in (by_owner o s c r) (place_of n))
      at Site t = unfold by_owner in refl
      at Chemical t = unfold by_owner in ap (λ (q : Pair). is q) (share_is c (place_of n) t)
      at Receptor t = unfold by_owner in refl

  -- an exposure read from what is worked ahead of it is the page's
  pub begun_exposure : (p : Pathway) → exposure_from (worked_of r (ahead (exposure p))) p s (absorbed_of c) r ≡ worked_for s c r (exposure p)
  unfolding exposure_from worked_of worked_for is_receptors
  begun_exposure p =
      ap (λ (o : Outcome Pair). plain_from o pairs taken (exposure p)) (plain_same pairs _ _ taken own_taken (ahead (exposure p)) (ahead_own p))
      ∙ plain_ahead pairs taken (exposure p)
      ∙ plain_same pairs is_taken taken _ taken_is (exposure p) (all_taken p)

-- ---- a receptor's own habits
own_begun : (y : Guidance) (r : Values) (p : Pathway) → begun_in (habits_of y r) r p ≡ worked_of r (ahead (exposure p))
unfolding begun_in habits_of
own_begun y r Air = refl
own_begun y r SoilSummer = refl
own_begun y r SoilWinter = refl
own_begun y r Skin = refl
own_begun y r AboveGround = refl
own_begun y r BelowGround = refl

own_base : (y : Guidance) (r : Values) (e : Effect) → base_in (habits_of y r) e ≡ worked_of r (B e)
unfolding base_in habits_of
own_base y r Hazard = refl
own_base y r Cancer = refl

divided : (s c r : Values) (e : Effect) (p : Pathway) → after quotient (worked_for s c r (exposure p)) (worked_for s c r (B e)) ≡ worked_for s c r (factor e p)
unfolding worked_for plain plain_with read pairs factor
divided s c r e p = refl

pub own_factor : (y : Guidance) (e : Effect) (p : Pathway) (s c r : Values) → factor_with (exposure_with (habits_of y r) p s (absorbed_of c) r) (base_in (habits_of y r) e) ≡ factor_of e p s c r
unfolding factor_with exposure_with factor_of
own_factor y e p s c r =
    let x : exposure_with (habits_of y r) p s (absorbed_of c) r ≡ worked_for s c r (exposure p) = ap (λ (o : Outcome Pair). exposure_from o p s (absorbed_of c) r) (own_begun y r p) ∙ begun_exposure s c r p in
    let b : base_in (habits_of y r) e ≡ worked_for s c r (B e) = own_base y r e ∙ base_alike s c r e in
    ap (λ (o : Outcome Pair). mapped (λ (q : Pair). record { 0 = q }) o) (ap₂ (after quotient) x b ∙ divided s c r e p)

-- ---- a dose as a pair is its factor's pair × that of the pathway's medium
unfoldable pub medium_in : Pathway → Media → Pair
medium_in p m = by_medium p m.air.0 m.soil.0 m.above_ground.0 m.below_ground.0

medium_pair : (p : Pathway) (m : Media) → (medium_for p m).0 ≡ medium_in p m
unfolding medium_for medium_in breathed_in eaten
medium_pair p m = by_medium_lem (λ q (a : Medium) (c : Pair). a.0 ≡ c) refl p refl refl refl

pub dose_pair : (p : Pathway) (f : Outcome Factor) (m : Media) → mapped (λ (g : Dose). g.0) (dose_for p f m) ≡ after product (mapped (λ (g : Factor). g.0) f) (is (medium_in p m))
unfolding dose_for
dose_pair p f m =
    pair_back (λ (g : Dose). g.0) (λ (q : Pair). record { 0 = q }) (λ q. refl) (after product (mapped (λ (g : Factor). g.0) f) (is (medium_for p m).0))
    ∙ ap (λ (c : Pair). after product (mapped (λ (g : Factor). g.0) f) (is c)) (medium_pair p m)
