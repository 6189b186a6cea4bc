-- A case in range lacks no value that a deck needs: every place of a record is a slot with a name, or a later slot. Assumes nothing.
use mathlib.Core.Path.{◌≡◌, refl, sym, ap, subst}
use mathlib.Core.Bool.{Bool, true, false, not, ◌&&◌, ◌||◌, false≢true}
use mathlib.Core.List.{map}
use Prim.Native.Nat.{ℕ, ◌≤◌, ◌<◌}
use lib.Dec.{eqb, ltb}
use lib.ListN.{length, get_or, length-map}
use borrow.Author.Tests.{eqb-true, ltb-true, ltb-false, not-false}
use Rattle.lists.specs.Lists.{any_of}
use Rattle.lists.proofs.AnyOf.{none_of, none_any}
use Rattle.lists.proofs.Booleans.{both}
use Rattle.sizes.specs.Sizes.{slots_per_record}
use Rattle.slots.specs.declared.Owner.{Owner}
use Rattle.slots.specs.declared.Owner.TheVariants.{Site, Chemical, Receptor}
use Rattle.slots.specs.declared.Rule.{Rule}
use Rattle.slots.specs.declared.Sort.{Sort}
use Rattle.slots.specs.Slots.{Slot, table, same, is_in, place_in, rule_in, rule_at, owner_of, place_of, rule_for}
use Rattle.slots.proofs.SlotLaws.{name_of, later_rule}
use Rattle.cases.specs.declared.Case.{Case}
use Rattle.cases.specs.declared.Value.{Value}
use Rattle.cases.specs.declared.Value.TheVariants.{Absent, Given}
use Rattle.cases.specs.Cases.{value_at, owners_record, given}
use Rattle.cases.specs.CaseConditions.{is_missing, lacks}
use Rattle.cases.specs.Ranged.{Fits, Ranged}

-- ---- the name of a record's place is found at that place, in that record
unfoldable name_at : Owner → ℕ → Slot
name_at o k = get_or (map name_of (table o)) k ""

unfoldable alike : Owner → Owner → Bool
alike Site Site = true
alike Site Chemical = false
alike Site Receptor = false
alike Chemical Site = false
alike Chemical Chemical = true
alike Chemical Receptor = false
alike Receptor Site = false
alike Receptor Chemical = false
alike Receptor Receptor = true

alike_same : (a b : Owner) → alike a b ≡ true → a ≡ b
unfolding alike
alike_same Site Site h = refl
alike_same Site Chemical h = absurd (false≢true h)
alike_same Site Receptor h = absurd (false≢true h)
alike_same Chemical Site h = absurd (false≢true h)
alike_same Chemical Chemical h = refl
alike_same Chemical Receptor h = absurd (false≢true h)
alike_same Receptor Site h = absurd (false≢true h)
alike_same Receptor Chemical h = absurd (false≢true h)
alike_same Receptor Receptor h = refl

unfoldable found : Owner → ℕ → Bool
found o k = eqb (place_of (name_at o k)) k && alike (owner_of (name_at o k)) o

all_found : (o : Owner) → any_of (λ k. not (found o k)) (length (table o)) ≡ false
unfolding found name_at alike name_of any_of place_of owner_of place_in is_in same table
all_found Site = refl
all_found Chemical = refl
all_found Receptor = refl

-- ---- a value that fits its rule is not missing
fits_there : (rule : Rule) (v : Value) → Fits rule v → is_missing rule v ≡ false
unfolding is_missing
fits_there rule Absent f = ap not f
fits_there rule (Given power digits) f = refl

module _ (sort : Sort) (case : Case) (ranged : Ranged sort case) (j i : ℕ) (j-small : j < case.receptors.count) (i-small : i < case.chemicals.count) where
  later_there : (r : Rule) (v : Value) → r.blank ≡ true → is_missing r v ≡ false
  unfolding is_missing
  later_there r Absent e = by r.dash r.blank e
    where
      by : (a b : Bool) → b ≡ true → not (a || b) ≡ false
      by true b e = refl
      by false b e = ap not e
  later_there r (Given power digits) e = refl

  named : (o : Owner) (k : ℕ) → found o k ≡ true → is_missing (rule_at sort o k) (value_at (owners_record o case j i) k) ≡ false
  unfolding found rule_for given
  named o k h =
      let t = both (eqb (place_of (name_at o k)) k) (alike (owner_of (name_at o k)) o) h in
      let at : place_of (name_at o k) ≡ k = eqb-true (place_of (name_at o k)) k t.0 in
      let whose : owner_of (name_at o k) ≡ o = alike_same (owner_of (name_at o k)) o t.1 in
      subst (λ (a : Owner). is_missing (rule_at sort a k) (value_at (owners_record a case j i) k) ≡ false) whose
      (subst (λ (n : ℕ). is_missing (rule_at sort (owner_of (name_at o k)) n) (value_at (owners_record (owner_of (name_at o k)) case j i) n) ≡ false) at
      (fits_there _ _ (ranged.fits j i j-small i-small (name_at o k))))

  place_there : (o : Owner) (k : ℕ) (t : Bool) → ltb k (length (table o)) ≡ t → is_missing (rule_at sort o k) (value_at (owners_record o case j i) k) ≡ false
  place_there o k true e =
      named o k (not-false (found o k) (none_of (λ n. not (found o n)) (length (table o)) (all_found o) k (ltb-true k (length (table o)) e)))
  place_there o k false e =
      later_there (rule_at sort o k) _ (ap (λ (r : Rule). r.blank) (later_rule sort o k (subst (λ (n : ℕ). n ≤ k) (sym (length-map (table o) (rule_in sort))) (ltb-false k (length (table o)) e))))

  -- no needed slot of the site, of a chemical or of a receptor has no value
  pub lacks_none : (o : Owner) → lacks sort o (owners_record o case j i) ≡ false
  unfolding lacks
  lacks_none o = none_any (λ k. is_missing (rule_at sort o k) (value_at (owners_record o case j i) k)) slots_per_record (λ k h. place_there o k (ltb k (length (table o))) refl)
