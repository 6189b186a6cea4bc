-- A slot's value as a pair and as an exact fraction: what is printed in its range is entered as the pair around the exact value, and 1 less
-- it likewise, as the equations ask of their inputs. With receptors in range, however they are made, a case in range gives a sound scenario.
-- Assumes nothing.
use mathlib.Core.Path.{◌≡◌, refl, sym, ◌∙◌, ap, subst}
use mathlib.Core.Bool.{true, false, false≢true}
use mathlib.Core.Logic.{◌⊎◌, inl, inr, ⊎_elim}
use Prim.Native.Nat.{ℕ, ◌+◌, ◌*◌, ◌^◌, ◌≤◌, ◌<◌}
use native.Mathlib.Nat.{mul-le-mul_right, le_of_mul-le-mul_right, one-le-pow, mul-pos, eq-zero-or-pos}
use native.Mathlib.Omega.{arith}
use lib.Dec.{lit<, lit≤}
use lib.IntN.{ℤ, pos, negsuc}
use lib.ListN.{length, get_or, get_or-map}
use mathlib.Core.List.{[], ◌∷◌}
use lib.Pow.{pow-add}
use lib.Signed.{mag}
use borrow.Author.Tests.{leb-true, not-true}
use Rattle.sizes.specs.Sizes.{most_receptors}
use Rattle.pair.specs.declared.Pair.{Pair}
use Rattle.pair.specs.Fraction.{Fraction, rest, minus}
use Rattle.pair.specs.Number.{depth, place}
use Rattle.pair.specs.Calls.{Outcome, is, entry, one_minus_entry, zero_pair, one_pair}
use Rattle.pair.specs.Promises.{Sized, scaled}
use Rattle.pair.proofs.Promises.{one_entry, one_less_one, entry_answered, entry_around, scaled_proper, rest_entry_answered, rest_entry_around, rest_scaled_proper, rest_scaled_sized}
use Rattle.pair.proofs.Profiles.{Good, good_around}
use Rattle.slots.specs.Slots.{Slot, table, same, is_in, place_in, rule_in, rule_at, owner_of, place_of, rule_of, rule_for, never_zero, at_most_one}
use Rattle.slots.specs.declared.Sort.{Sort}
use Rattle.slots.specs.declared.Sort.TheVariants.{Ordinary, Composite}
use Rattle.slots.specs.declared.Rule.{Rule}
use Rattle.slots.specs.declared.Owner.{Owner}
use Rattle.slots.specs.declared.Owner.TheVariants.{Site, Chemical, Receptor}
use Rattle.slots.proofs.SlotLaws.{most_rule, rule_cases}
use Rattle.equations.specs.declared.Values.{Values}
use Rattle.equations.specs.Readings.{value_in, by_owner, inputs}
use Rattle.equations.proofs.LineLaws.{of_printed, of_slot, of_rest, of_later, InRange, printed_good}
use Rattle.cases.specs.declared.Case.{Case}
use Rattle.cases.specs.declared.Value.{Value}
use Rattle.cases.specs.declared.Value.TheVariants.{Absent, Given}
use Rattle.cases.specs.declared.Record.{Record}
use Rattle.powers.specs.Powers.{above, below}
use Rattle.cases.specs.Ranges.{in_range}
use Rattle.cases.specs.Cases.{value_at, chemical_at, receptor_at, owners_record, given, is_other_year}
use Rattle.cases.specs.CaseConditions.{lacks}
use Rattle.cases.specs.Ranged.{Spelled, Fits, Ranged}
use Rattle.cases.proofs.Complete.{lacks_none}
use Rattle.cases.proofs.FitsLaws.{range_positive, range_bounds, range_most, year_right}
use Rattle.cases.specs.declared.Ids.{Ids}
use Rattle.lists.specs.Lists.{tabulate}
use Rattle.lists.proofs.ListLaws.{read_any}
use Rattle.scenario.specs.declared.Receptor as receptors
use Rattle.scenario.specs.declared.Receptors.{Receptors}
use Rattle.scenario.specs.declared.Scenario.{Scenario}
use Rattle.scenario.specs.Scenario.{or_no_pair, ids_of, pair_of, rest_of, values_of, no_receptor, chemical_in, receptor_in, stay_in, given_in, pairs_at, scenario_with, fraction_of, exact_with, no_guidance, stay_by, exact_stay}
use Rattle.scenario.proofs.Sound.{Sound}
use Rattle.scenario.proofs.ValueLaws.{told_is}

-- digits × 10^power as a field spells it, in the range of slot s
pub record Printable (s : Slot) (digits : ℕ) (power : ℤ) : Type 0 where
  pub twelve : digits ≤ 999999999999
  pub high : above power ≤ 200
  pub low : below power ≤ 200
  pub least : (digits ≡ 0) ⊎ (10 ^ below power ≤ digits * 10 ^ (above power + 20))
  pub most : digits * 10 ^ above power ≤ 1000000000 * 10 ^ below power
  pub some : never_zero s ≡ true → 0 < digits
  pub share : at_most_one s ≡ true → digits * 10 ^ above power ≤ 1 * 10 ^ below power

-- ---- powers of ten
pub ten_above : (k : ℕ) → 0 < 10 ^ k
ten_above k = one-le-pow k 10 (lit< tt)

place_is : (e : ℤ) → below e ≤ 200 → place e + below e ≡ depth + above e
unfolding place depth above below
place_is (pos n) h = omega arith
place_is (negsuc n) h = omega arith

pub place_power : (e : ℤ) → below e ≤ 200 → 10 ^ place e * 10 ^ below e ≡ 10 ^ depth * 10 ^ above e
place_power e h = sym (pow-add 10 (place e) (below e)) ∙ ap (λ (n : ℕ). 10 ^ n) (place_is e h) ∙ pow-add 10 depth (above e)

-- c × 10^below bounds digits × 10^above where c bounds digits × 10^power
at_most : (m a b p d c : ℕ) → p * b ≡ d * a → 0 < b → m * a ≤ c * b → m * p ≤ c * d
at_most m a b p d c e z h =
    le_of_mul-le-mul_right {k = b} (omega (arith, mul-le-mul_right d h, ap (λ (n : ℕ). m * n) e)) z

at_least : (m a b p d k : ℕ) → p * b ≡ d * a → 0 < b → b ≤ m * (a * k) → d ≤ m * p * k
at_least m a b p d k e z h =
    le_of_mul-le-mul_right {k = b} (omega (arith, mul-le-mul_right d h, ap (λ (n : ℕ). m * k * n) e)) z

mag_small : (e : ℤ) → above e ≤ 200 → below e ≤ 200 → mag e ≤ 99000
unfolding above below
mag_small (pos n) h l = omega arith
mag_small (negsuc n) h l = omega arith

module _ {s : Slot} {m : ℕ} {e : ℤ} (r : Printable s m e) where
  scaled_most : (c : ℕ) → m * 10 ^ above e ≤ c * 10 ^ below e → m * 10 ^ place e ≤ c * 10 ^ depth
  scaled_most c h = at_most m (10 ^ above e) (10 ^ below e) (10 ^ place e) (10 ^ depth) c (place_power e r.low) (ten_above (below e)) h

  scaled_least : 10 ^ below e ≤ m * 10 ^ (above e + 20) → 10 ^ depth ≤ m * 10 ^ place e * 10 ^ 20
  scaled_least h =
      at_least m (10 ^ above e) (10 ^ below e) (10 ^ place e) (10 ^ depth) (10 ^ 20) (place_power e r.low) (ten_above (below e))
      (rw (← pow-add 10 (above e) 20) h)

  scaled_sized : Sized 20 (scaled m e)
  unfolding scaled
  scaled_sized =
      record {
        sized =
            ⊎_elim (λ z. inl (rw z (omega arith)))
            (λ h. inr (scaled_least h, omega (arith, scaled_most 1000000000 r.most)))
            r.least;
      }

  scaled_some : never_zero s ≡ true → 0 < (scaled m e).num
  unfolding scaled
  scaled_some z = mul-pos (r.some z) (ten_above (place e))

  -- the entry is taken around the exact value, and 1 less it around what is left
  entry_good : (p : Pair) → entry m e ≡ is p → Good (of_printed s) (is p) (scaled m e)
  unfolding of_printed
  entry_good p t = good_around (of_printed s) (scaled m e) p (scaled_proper m e) (entry_around m e p t) scaled_sized (lit≤ tt) refl scaled_some

  rest_good : (p : Pair) → one_minus_entry m e ≡ is p → at_most_one s ≡ true → Good (of_rest s) (is p) (rest (scaled m e))
  unfolding scaled of_rest
  rest_good p t z =
      good_around (of_rest s) (rest (scaled m e)) p (rest_scaled_proper m e) (rest_entry_around m e p t)
      (rest_scaled_sized m e r.twelve (omega (arith, scaled_most 1 (r.share z)))) (lit≤ tt) refl (λ f. absurd (false≢true f))

  -- both are answered as they are given
  entry_is : entry m e ≡ is (pair_of (Given e m))
  unfolding pair_of or_no_pair
  entry_is = let a = entry_answered m e r.twelve (mag_small e r.high r.low) in a.1 ∙ ap (λ (o : Outcome Pair). is (or_no_pair o)) (sym (told_is entry e m a.0 a.1))

  rest_is : at_most_one s ≡ true → one_minus_entry m e ≡ is (rest_of (Given e m))
  unfolding rest_of or_no_pair scaled
  rest_is z =
      let a = rest_entry_answered m e r.twelve (mag_small e r.high r.low) (omega (arith, scaled_most 1 (r.share z))) in
      a.1 ∙ ap (λ (o : Outcome Pair). is (or_no_pair o)) (sym (told_is one_minus_entry e m a.0 a.1))

one_printable : (s : Slot) → Printable s 1 (pos 0)
unfolding above below
one_printable s =
    record {
      twelve = lit≤ tt;
      high = lit≤ tt;
      low = lit≤ tt;
      least = inr (lit≤ tt);
      most = lit≤ tt;
      some = λ z. lit< tt;
      share = λ z. lit≤ tt;
    }

-- what a slot's rule asks of a printed value
printable : (s : Slot) (m : ℕ) (e : ℤ) → in_range (rule_of s) m e ≡ true → Spelled m e → Printable s m e
unfolding never_zero at_most_one
printable s m e r d =
    record {
      twelve = omega (arith, d.twelve);
      high = omega (arith, d.high);
      low = omega (arith, d.low);
      least = ⊎_elim (λ z. inl z) (λ h. inr (range_bounds (rule_of s) m e r h).0) (eq-zero-or-pos m);
      most = range_most (rule_of s) m e r 1000000000 (most_rule s);
      some = λ z. range_positive (rule_of s) m e r (not-true (rule_of s).zero z);
      share = λ z. range_most (rule_of s) m e r 1 (leb-true (rule_of s).most 1 z);
    }

-- A value that is printed where a deck of this sort asks for one is as its slot's written rule asks.
written_rule : (sort : Sort) (s : Slot) → (rule_for sort s).used ≡ true → rule_for sort s ≡ rule_of s
written_rule sort s h = ⊎_elim (λ e. e) (λ e. absurd (false≢true (sym (ap (λ (r : Rule). r.used) e) ∙ h))) (rule_cases sort s)

printed_printable : (sort : Sort) (s : Slot) (m : ℕ) (e : ℤ) → Fits (rule_for sort s) (Given e m) → Printable s m e
printed_printable sort s m e f = printable s m e (subst (λ (r : Rule). in_range r m e ≡ true) (written_rule sort s f.0) f.1) f.2

-- It is a pair that the equations take, and so is 1 less it; a missing value reads as 1.
pub value_good : (sort : Sort) (s : Slot) (v : Value) → Fits (rule_for sort s) v → Good (of_printed s) (is (pair_of v)) (fraction_of v)
unfolding pair_of fraction_of
value_good sort s Absent f = entry_good (one_printable s) one_pair one_entry
value_good sort s (Given e m) f =
    let r : Printable s m e = printed_printable sort s m e f in
    entry_good r (pair_of (Given e m)) (entry_is r)

left_good : (sort : Sort) (s : Slot) (v : Value) → Fits (rule_for sort s) v → at_most_one s ≡ true → Good (of_rest s) (is (rest_of v)) (rest (fraction_of v))
unfolding rest_of fraction_of
left_good sort s Absent f z = rest_good (one_printable s) zero_pair one_less_one z
left_good sort s (Given e m) f z =
    let r : Printable s m e = printed_printable sort s m e f in
    rest_good r (rest_of (Given e m)) (rest_is r z) z

-- and its pair is the entry of what is printed
pub value_entered : (sort : Sort) (s : Slot) (m : ℕ) (e : ℤ) → Fits (rule_for sort s) (Given e m) → entry m e ≡ is (pair_of (Given e m))
unfolding pair_of
value_entered sort s m e f = entry_is (printed_printable sort s m e f)

-- ---- the pair at a place of a record is the pair of what is printed there
pub value_at_lem : (r : Record) (k : ℕ) → value_in (values_of r) k ≡ pair_of (value_at r k)
unfolding value_in values_of value_at pair_of
value_at_lem r k = get_or-map pair_of r.slots k Absent

absent_printed : {power : ℤ} {digits : ℕ} → Absent ≡ Given power digits → ⊥
absent_printed e = let z : ◌≡◌ {A = ℕ} 0 1 = cc in omega arith

-- a slot of the site or of a chemical
unfoldable pub OfSource : Owner → Type 0
OfSource Site = Unit {0}
OfSource Chemical = Unit {0}
OfSource Receptor = ⊥

source_pair : (o : Owner) → OfSource o → (a b : Record) (c : Values) (k : ℕ) → value_in (by_owner o (values_of a) (values_of b) c) k ≡ pair_of (by_owner o (value_at a k) (value_at b k) Absent)
unfolding OfSource by_owner
source_pair Site t a b c k = value_at_lem a k
source_pair Chemical t a b c k = value_at_lem b k
source_pair Receptor t a b c k = absurd t

pub pair_printed : (scenario : Scenario) (j i : ℕ) (s : Slot) → OfSource (owner_of s) → (pairs_at scenario j i).value s ≡ pair_of (given_in scenario i s)
unfolding pairs_at inputs given_in
pair_printed scenario j i s t = source_pair (owner_of s) t scenario.site (chemical_in scenario i) (receptor_in scenario j).values (place_of s)

-- the site and the chemicals lack the same in every sort of deck
alike : (sort : Sort) (o : Owner) (r : Record) → OfSource o → lacks Ordinary o r ≡ lacks sort o r
unfolding lacks rule_at rule_in table OfSource
alike Ordinary o r t = refl
alike Composite Site r t = refl
alike Composite Chemical r t = refl
alike Composite Receptor r t = absurd t

-- a receptor's slot is as its rule asks
pub receptor_fits : (sort : Sort) (case : Case) → Ranged sort case → (j : ℕ) → j < case.receptors.count → (s : Slot) → owner_of s ≡ Receptor
    → Fits (rule_for sort s) (value_at (receptor_at case j) (place_of s))
unfolding given owners_record
receptor_fits sort case ranged j h s e = subst (λ (o : Owner). Fits (rule_for sort s) (value_at (owners_record o case j 0) (place_of s))) e (ranged.fits j 0 h ranged.some_chemicals s)

-- ---- a scenario of a case in range, with receptors whose slots' pairs are in range of these values
module _ (sort : Sort) (case : Case) (ranged : Ranged sort case) where
  module _ (i : ℕ) (i-small : i < case.chemicals.count) (s : Slot) where
    fits : Fits (rule_for sort s) (given case 0 i s)
    fits = ranged.fits 0 i ranged.some_receptors i-small s

    value_by : (o : Owner) (c : Values) (x : Fraction) → Fits (rule_for sort s) (value_at (owners_record o case 0 i) (place_of s)) → (o ≡ Receptor → Good (of_slot s) (is (value_in c (place_of s))) x)
        → Good (of_slot s) (is (value_in (by_owner o (values_of case.site) (values_of (chemical_at case i)) c) (place_of s)))
        (by_owner o (fraction_of (value_at case.site (place_of s))) (fraction_of (value_at (chemical_at case i) (place_of s))) x)
    unfolding by_owner owners_record
    value_by Site c x f g = rw value_at_lem (printed_good s (value_good sort s (value_at case.site (place_of s)) f))
    value_by Chemical c x f g = rw value_at_lem (printed_good s (value_good sort s (value_at (chemical_at case i) (place_of s)) f))
    value_by Receptor c x f g = g refl

    rest_by : (o : Owner) (x : Fraction) → Fits (rule_for sort s) (value_at (owners_record o case 0 i) (place_of s)) → by_owner o (at_most_one s) (at_most_one s) false ≡ true
        → Good (of_rest s) (is (rest_of (by_owner o (value_at case.site (place_of s)) (value_at (chemical_at case i) (place_of s)) Absent)))
        (rest (by_owner o (fraction_of (value_at case.site (place_of s))) (fraction_of (value_at (chemical_at case i) (place_of s))) x))
    unfolding by_owner owners_record
    rest_by Site x f z = left_good sort s (value_at case.site (place_of s)) f z
    rest_by Chemical x f z = left_good sort s (value_at (chemical_at case i) (place_of s)) f z
    rest_by Receptor x f z = absurd (false≢true z)

  -- the site's year is that of a guidance
  year_rule : (t : Sort) → (rule_for t "year").year ≡ true
  unfolding rule_for rule_at rule_in owner_of place_of place_in is_in same table
  year_rule Ordinary = refl
  year_rule Composite = refl

  year_named : is_other_year (value_at case.site (place_of "year")) ≡ false
  unfolding given owners_record owner_of is_in same table
  year_named = year_right (rule_for sort "year") (value_at case.site (place_of "year")) (ranged.fits 0 0 ranged.some_receptors ranged.some_chemicals "year") (year_rule sort)

  module _ (receptors' : Receptors) (receptor : ℕ → Slot → Fraction) where
    input_ranged : (i : ℕ) → i < case.chemicals.count → (s : Slot) (j : ℕ)
        → (owner_of s ≡ Receptor → Good (of_slot s) (is (value_in (get_or receptors'.list j no_receptor).values (place_of s))) (receptor j s))
        → InRange s (pairs_at (scenario_with case receptors') j i) (exact_with case receptor j i s)
    unfolding pairs_at inputs given_in scenario_with exact_with given chemical_in receptor_in chemical_at of_rest
    input_ranged i i-small s j g =
        record {
          value = value_by i i-small s (owner_of s) (get_or receptors'.list j no_receptor).values (receptor j s) (fits i i-small s) g;
          rest = λ z. rest_by i i-small s (owner_of s) (receptor j s) (fits i i-small s) z;
        }

    pub made_sound : 1 ≤ receptors'.count → receptors'.count ≤ most_receptors
        → ((j : ℕ) → j < receptors'.count → (s : Slot) → owner_of s ≡ Receptor → Good (of_slot s) (is (value_in (get_or receptors'.list j no_receptor).values (place_of s))) (receptor j s))
        → ((j : ℕ) → j < receptors'.count → (of_later (get_or receptors'.list j no_receptor).stay).answered ≡ true
        → Good (of_later (get_or receptors'.list j no_receptor).stay) (is (get_or receptors'.list j no_receptor).later) (minus (receptor j "T2") (fraction_of (value_at case.site (place_of "tD")))))
        → ((j : ℕ) → j < receptors'.count → (get_or receptors'.list j no_receptor).stay ≡ stay_by (receptor j "T2") (fraction_of (value_at case.site (place_of "tD"))))
        → Sound (scenario_with case receptors') (exact_with case receptor)
    unfolding OfSource exact_stay scenario_with pairs_at stay_in receptor_in chemical_in chemical_at exact_with no_guidance owners_record by_owner owner_of is_in same table
    made_sound some few good later_good chosen =
        record {
          some_chemicals = ranged.some_chemicals;
          few_chemicals = ranged.few_chemicals;
          some_receptors = some;
          few_receptors = few;
          guided = year_named;
          whole = alike sort Site case.site tt ∙ lacks_none sort case ranged 0 0 ranged.some_receptors ranged.some_chemicals Site;
          wholes = λ i l. alike sort Chemical (chemical_at case i) tt ∙ lacks_none sort case ranged 0 i ranged.some_receptors l Chemical;
          inputs = λ j i h l s. input_ranged i l s j (good j h s);
          stays = λ j i h l. chosen j h;
          later = λ j i h l t. later_good j h t;
        }

  -- Each slot's pair, of the site or of a chemical, is the entry of what is printed there, and 1 less a slot that is at most 1 is taken from
  -- its digits.
  module _ (receptors' : Receptors) (j i : ℕ) (i-small : i < case.chemicals.count) (s : Slot) (digits : ℕ) (power : ℤ) (there : given_in (scenario_with case receptors') i s ≡ Given power digits) where
    source_by : (o : Owner) → Fits (rule_for sort s) (value_at (owners_record o case 0 i) (place_of s))
        → by_owner o (value_at case.site (place_of s)) (value_at (chemical_at case i) (place_of s)) Absent ≡ Given power digits
        → OfSource o × Fits (rule_for sort s) (Given power digits)
    unfolding by_owner owners_record OfSource
    source_by Site f e = (tt, subst (Fits (rule_for sort s)) e f)
    source_by Chemical f e = (tt, subst (Fits (rule_for sort s)) e f)
    source_by Receptor f e = absurd (absent_printed e)

    of_source : OfSource (owner_of s) × Fits (rule_for sort s) (Given power digits)
    unfolding given_in scenario_with given chemical_in chemical_at
    of_source = source_by (owner_of s) (fits i i-small s) there

    fitting : Printable s digits power
    fitting = printed_printable sort s digits power of_source.1

    pub source_entered : entry digits power ≡ is ((pairs_at (scenario_with case receptors') j i).value s)
    unfolding pair_of
    source_entered = entry_is fitting ∙ ap (λ (q : Pair). is q) (sym (pair_printed (scenario_with case receptors') j i s of_source.0 ∙ ap pair_of there))

    pub source_rested : at_most_one s ≡ true → one_minus_entry digits power ≡ is ((pairs_at (scenario_with case receptors') j i).rest s)
    unfolding pairs_at rest_of
    source_rested z = rest_is fitting z ∙ ap (λ (v : Value). is (rest_of v)) (sym there)

-- the receptors' ids as they are read, whatever stands for a missing receptor
pub ids_all : (rs : Receptors) (blank : receptors.Receptor) → length rs.list ≡ most_receptors
    → ◌≡◌ {A = Ids} (record { count = rs.count; list = (get_or rs.list 0 blank).id ∷ (get_or rs.list 1 blank).id ∷ (get_or rs.list 2 blank).id ∷ (get_or rs.list 3 blank).id ∷ 0 ∷ 0 ∷ 0 ∷ 0 ∷ [] }) (ids_of rs)
unfolding ids_of tabulate
ids_all rs blank long =
    let at : (k : ℕ) → k < most_receptors → get_or rs.list k blank ≡ get_or rs.list k no_receptor = λ k h. read_any rs.list k (omega (arith, long)) blank no_receptor in
    rw (at 0 (lit< tt), at 1 (lit< tt), at 2 (lit< tt), at 3 (lit< tt)) refl
