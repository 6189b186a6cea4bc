-- A receptor's exposure against the deposition, on the printed digits: a printed time in range is exact, and where the exposure goes beyond the
-- deposition T2 − tD is the pair around the exact difference. Assumes nothing.
use mathlib.Core.Path.{◌≡◌, refl, sym, ◌∙◌, ap, subst}
use mathlib.Core.Bool.{Bool, true, false, cond, false≢true}
use Prim.Native.Nat.{ℕ, suc, ◌+◌, ◌-◌, ◌*◌, ◌^◌, ◌≤◌, ◌<◌}
use native.Mathlib.Nat.{mul-pos, mul-le-mul_right, le_of_mul-le-mul_right, lt_of_mul-lt-mul_right, one-le-pow}
use native.Mathlib.Omega.{arith}
use lib.Dec.{leb, lit<, lit≤}
use lib.Pow.{pow-add}
use lib.IntN.{ℤ, pos, negsuc}
use lib.Signed.{le_z}
use borrow.Author.Tests.{leb-true, leb-false, le-leb, lt-leb, le-ltb}
use Rattle.pair.specs.declared.Pair.{Pair}
use Rattle.pair.specs.Fraction.{Fraction, Proper, minus}
use Rattle.pair.specs.Calls.{Outcome, is}
use Rattle.pair.proofs.Promises.{◌=ᶠ◌, scaled_proper, equal_turned, equal_through, minus_equal}
use Rattle.pair.proofs.Profiles.{Good, good_around, good_equal}
use Rattle.times.specs.declared.Years.{Years}
use Rattle.times.specs.Times as years
use Rattle.times.specs.Times.{amount, in_years, is_years}
use Rattle.times.proofs.TimePromises.{amount_below, printed_told, printed_is_years, printed_same, at_most_told, years_proper, years_sized, beyond_around, beyond_answered, minus_years}
use Rattle.slots.specs.declared.Sort.{Sort}
use Rattle.slots.specs.declared.Sort.TheVariants.{Ordinary, Composite}
use Rattle.slots.specs.declared.Rule.{Rule}
use Rattle.slots.specs.Slots.{Slot, positive, table, same, is_in, place_in, rule_in, rule_at, rule_for, owner_of, place_of}
use Rattle.cases.specs.declared.Case.{Case}
use Rattle.cases.specs.declared.Value.{Value}
use Rattle.cases.specs.declared.Value.TheVariants.{Given}
use Rattle.powers.specs.Powers.{above, below}
use Rattle.cases.specs.Ranges.{in_range}
use Rattle.cases.specs.Cases.{value_at, owners_record, given}
use Rattle.cases.specs.Ranged.{Spelled, Fits, Ranged}
use Rattle.cases.proofs.FitsLaws.{range_positive, range_most, finest, needed}
use Rattle.equations.specs.declared.Stay.TheVariants.{Within, Beyond}
use Rattle.equations.proofs.LineLaws.{of_later}
use Rattle.scenario.specs.Scenario.{or_no_pair, told, of_value, otherwise, or_no_time, fraction_of, time_given, stay_if, later_if, stay_by}

-- a time, and the exact value that it is
pub record Exactly (y : Years) (x : Fraction) : Type 0 where
  pub time : is_years y ≡ true
  pub proper : Proper x
  pub same : x =ᶠ in_years y

-- a printed time in range: its last digit stands from 1E-27 to 1E+9, and it is at most 1E+9 years
low_enough : (e : ℤ) → below e ≤ 27 → le_z years.least e ≡ true
unfolding below years.least
low_enough (pos n) h = refl
low_enough (negsuc n) h = le-leb n 26 (omega arith)

high_enough : (e : ℤ) → above e ≤ 9 → le_z e (pos 9) ≡ true
unfolding above
high_enough (pos n) h = le-leb n 9 h
high_enough (negsuc n) h = refl

amount_few : (m : ℕ) (e : ℤ) → below e ≤ 27 → m * 10 ^ above e ≤ 1000000000 * 10 ^ below e → years.printed_amount m e < 10 ^ 37
unfolding above below years.printed_amount years.places years.least
amount_few m (pos n) h k = rw (pow-add 10 n 27) (omega (arith, mul-le-mul_right (10 ^ 27) k))
amount_few m (negsuc n) h k =
    let d : 27 - suc n + suc n ≡ 27 = omega arith in
    let e : 10 ^ (27 - suc n) * 10 ^ suc n ≡ 10 ^ 27 = sym (pow-add 10 (27 - suc n) (suc n)) ∙ ap (λ (i : ℕ). 10 ^ i) d in
    rw (le-ltb 27 (suc n) (omega arith)) (few m (10 ^ (27 - suc n)) (10 ^ suc n) e (one-le-pow (suc n) 10 (lit< tt)) (omega (arith, k)))
  where
    few : (m u v : ℕ) → u * v ≡ 10 ^ 27 → 0 < v → m ≤ 1000000000 * v → m * u < 10 ^ 37
    few m u v e z k = omega (arith, mul-le-mul_right u k, ap (λ (i : ℕ). 1000000000 * i) e)

-- what is printed in a slot that needs a time: it is told, and it is exact
pub record Told (v : Value) : Type 0 where
  pub told : (digits : ℕ) (power : ℤ) → v ≡ Given power digits → years.printed digits power ≡ is (time_given v)
  pub exact : Exactly (time_given v) (fraction_of v)

module _ (rule : Rule) (b : rule.blank ≡ false) (d : rule.dash ≡ false) (z : rule.zero ≡ false) (most : rule.most ≤ 1000000000) where
  digits_told : (m : ℕ) (e : ℤ) → in_range rule m e ≡ true → Spelled m e → (y : Years) × (years.printed m e ≡ is y)
  digits_told m e r s =
      let some : 0 < m = range_positive rule m e r z in
      let w = finest rule m e r some most s in
      (years.words_of (years.printed_amount m e), printed_told m e (low_enough e w.0) (high_enough e w.1) (amount_few m e w.0 (range_most rule m e r 1000000000 most)))

  pub printed_exactly : (v : Value) → Fits rule v → Told v
  unfolding time_given fraction_of told of_value otherwise or_no_time
  printed_exactly v f =
      let g = needed rule v f b d in
      let h = digits_told g.digits g.power g.ranged g.spelled in
      let y : Years = h.0 in
      rw g.given
      (record {
        told = λ digits power e. rw (← same_digits g.power power g.digits digits e, ← same_power g.power power g.digits digits e, h.1) refl;
        exact = rw h.1 (record { time = printed_is_years g.digits g.power y h.1; proper = scaled_proper g.digits g.power; same = printed_same g.digits g.power y h.1 });
      })
    where
      same_digits : (e e' : ℤ) (m m' : ℕ) → Given e m ≡ Given e' m' → m ≡ m'
      same_digits e e' m m' p = cc

      same_power : (e e' : ℤ) (m m' : ℕ) → Given e m ≡ Given e' m' → e ≡ e'
      same_power e e' m m' p = cc

-- tD, in every sort of deck
tD_rule : (sort : Sort) → rule_for sort "tD" ≡ positive
unfolding rule_for rule_at rule_in owner_of place_of place_in is_in same table
tD_rule Ordinary = refl
tD_rule Composite = refl

-- a rule that asks for a value above 0
pub time_told : (sort : Sort) (s : Slot) → rule_for sort s ≡ positive → (v : Value) → Fits (rule_for sort s) v → Told v
time_told sort s e v f = printed_exactly positive refl refl refl (lit≤ tt) v (subst (λ (r : Rule). Fits r v) e f)

pub deposition_told : (sort : Sort) (case : Case) → Ranged sort case → Told (value_at case.site (place_of "tD"))
unfolding given owners_record owner_of is_in same table
deposition_told sort case ranged = time_told sort "tD" (tD_rule sort) (value_at case.site (place_of "tD")) (ranged.fits 0 0 ranged.some_receptors ranged.some_chemicals "tD")

some : (n : ℕ) → 0 < n → 0 < (years.years_of n).num
unfolding years.years_of
some n h = h

proper_minus : {x y : Fraction} → Proper x → Proper y → Proper (minus x y)
unfolding minus
proper_minus p q = record { above_zero = mul-pos p.above_zero q.above_zero }

module _ (exposure deposition : Years) (x y : Fraction) (T2 : Exactly exposure x) (tD : Exactly deposition y) where
  by_choice : (t : Bool) → stay_if (is t) ≡ cond t Within Beyond
  unfolding stay_if
  by_choice true = refl
  by_choice false = refl

  taken : (o : Outcome Pair) (p : Pair) → o ≡ is p → or_no_pair o ≡ p
  unfolding or_no_pair
  taken o p e = rw e refl

  by_order : (t : Bool) → leb (amount exposure) (amount deposition) ≡ t → (of_later (stay_if (is t))).answered ≡ true
      → Good (of_later (stay_if (is t))) (is (later_if (stay_if (is t)) exposure deposition)) (minus x y)
  unfolding of_later stay_if later_if in_years
  by_order true e h = absurd (false≢true h)
  by_order false e h =
      let l : amount deposition < amount exposure = leb-false (amount exposure) (amount deposition) e in
      let b = beyond_answered exposure deposition T2.time tD.time (omega arith) in
      let n : ℕ = amount exposure - amount deposition in
      rw (taken (years.beyond exposure deposition) b.0 b.1)
      (good_equal (of_later Beyond)
      (good_around (of_later Beyond) (years.years_of n) b.0 (years_proper n) (beyond_around exposure deposition b.0 b.1) (years_sized n (omega (arith, amount_below exposure T2.time))) (lit≤ tt) refl (λ z. some n (omega arith)))
      (proper_minus T2.proper tD.proper)
      (equal_turned (equal_through (proper_minus (years_proper (amount exposure)) (years_proper (amount deposition))) (minus_equal T2.same tD.same) (minus_years exposure deposition))))

  -- T2 ≤ tD of the times is T2 ≤ tD of the exact values
  across : (a b m n c d u : ℕ) → a * u ≡ m * c → b * u ≡ n * d → 0 < u → 0 < c → 0 < d → leb (a * d) (b * c) ≡ leb m n
  across a b m n c d u e f z k l = go (leb m n) refl
    where
      go : (t : Bool) → leb m n ≡ t → leb (a * d) (b * c) ≡ t
      go true h =
          let most = leb-true m n h in
          le-leb (a * d) (b * c) (le_of_mul-le-mul_right {k = u} (omega (arith, ap (λ (i : ℕ). i * d) e, ap (λ (i : ℕ). i * c) f, mul-le-mul_right (c * d) most)) z)
      go false h =
          let more = leb-false m n h in
          lt-leb (a * d) (b * c) (lt_of_mul-lt-mul_right u (omega (arith, ap (λ (i : ℕ). i * d) e, ap (λ (i : ℕ). i * c) f, mul-le-mul_right (c * d) more, mul-pos k l)))

  pub stay_exact : stay_if (years.at_most exposure deposition) ≡ stay_by x y
  unfolding stay_by in_years years.years_of
  stay_exact =
      rw (at_most_told exposure deposition T2.time tD.time)
      (by_choice (leb (amount exposure) (amount deposition)) ∙ ap (λ (t : Bool). cond t Within Beyond) (sym (across x.num y.num (amount exposure) (amount deposition) x.den y.den (10 ^ 27) T2.same.across tD.same.across (one-le-pow 27 10 (lit< tt)) T2.proper.above_zero tD.proper.above_zero)))

  pub later_good : (of_later (stay_if (years.at_most exposure deposition))).answered ≡ true
      → Good (of_later (stay_if (years.at_most exposure deposition))) (is (later_if (stay_if (years.at_most exposure deposition)) exposure deposition)) (minus x y)
  later_good = rw (at_most_told exposure deposition T2.time tD.time) (by_order (leb (amount exposure) (amount deposition)) refl)
