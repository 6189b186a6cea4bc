-- The exposure T2 of a composite: the sum of up to eight printed years in range is always told, is exactly the sum of what is printed, and its
-- pair is as narrow as a printed value's. Assumes nothing.
use mathlib.Core.Path.{◌≡◌, refl, ap, subst}
use mathlib.Core.Bool.{true}
use mathlib.Core.Logic.{⊎_elim}
use Prim.Native.Nat.{ℕ, zero, suc, ◌+◌, ◌*◌, ◌^◌, ◌≤◌, ◌<◌}
use native.Mathlib.Nat.{mul-pos, mul-le-mul_right, le_of_mul-le-mul_right, eq-zero-or-pos}
use native.Mathlib.Omega.{arith}
use lib.Dec.{lit≤}
use lib.IntN.{ℤ}
use Rattle.sizes.specs.Sizes.{most_stages}
use Rattle.pair.specs.Fraction.{Fraction, Proper, plus}
use Rattle.pair.specs.Number.{depth, place}
use Rattle.pair.specs.Calls.{Outcome, is, refused}
use Rattle.pair.specs.Promises.{scaled}
use Rattle.pair.proofs.Promises.{◌=ᶠ◌, equal_turned, equal_through, plus_equal}
use Rattle.pair.proofs.Profiles.{Good, answered_as, good_around, good_equal}
use Rattle.times.specs.declared.Years.{Years}
use Rattle.times.specs.Times as years
use Rattle.times.specs.Times.{amount, in_years}
use Rattle.times.proofs.TimePromises.{amount_below, together_told, together_is_years, together_amount, together_same, years_proper, years_sized, pair_around, pair_answered}
use Rattle.slots.specs.declared.Sort.{Sort}
use Rattle.slots.specs.declared.Rule.{Rule}
use Rattle.slots.specs.Slots.{Slot, positive, rule_for}
use Rattle.equations.specs.Formula.{fractions}
use Rattle.cases.specs.declared.Value.{Value}
use Rattle.cases.specs.declared.Value.TheVariants.{Given}
use Rattle.powers.specs.Powers.{above, below}
use Rattle.cases.specs.Ranged.{Fits}
use Rattle.cases.proofs.FitsLaws.{needed, range_positive, range_most, finest}
use Rattle.scenario.specs.Scenario.{or_no_time, fraction_of, time_given}
use Rattle.scenario.proofs.InputLaws.{ten_above, place_power}
use Rattle.scenario.proofs.DepositionLaws.{Exactly, printed_exactly}
use Rattle.composite.specs.Composite.{summed, years_together}

-- a time above 0 and of at most n × 1E+9 years, and the exact value that it is
pub record Lasting (n : ℕ) (y : Years) (x : Fraction) : Type 0 where
  pub exact : Exactly y x
  pub some : 0 < amount y
  pub most : amount y ≤ n * 10 ^ 36

-- ---- a printed time
-- m × 10^e years are a times 1E-27 years
some_amount : (m p a d : ℕ) → m * p * 10 ^ 27 ≡ a * d → 0 < m → 0 < p → 0 < a
some_amount m p a d e h l = ⊎_elim (λ z. absurd (omega (arith, mul-pos h l, e, ap (λ (i : ℕ). i * d) z))) (λ s. s) (eq-zero-or-pos a)

most_amount : (m p a d u b : ℕ) → m * p * 10 ^ 27 ≡ a * d → p * b ≡ d * u → 0 < d → 0 < b → m * u ≤ 1000000000 * b → a ≤ 1 * 10 ^ 36
most_amount m p a d u b e f z w h =
    le_of_mul-le-mul_right {k = d * b}
    (omega (arith, ap (λ (i : ℕ). i * b) e, ap (λ (i : ℕ). m * 10 ^ 27 * i) f, mul-le-mul_right (10 ^ 27 * d) h))
    (mul-pos z w)

amount_across : (m : ℕ) (e : ℤ) (v : Value) (y : Years) → v ≡ Given e m → fraction_of v =ᶠ in_years y → m * 10 ^ place e * 10 ^ 27 ≡ amount y * 10 ^ depth
unfolding fraction_of scaled in_years years.years_of
amount_across m e v y p s = (rw p at s).across

pub printed_lasts : (sort : Sort) (s : Slot) (v : Value) → rule_for sort s ≡ positive → Fits (rule_for sort s) v → Lasting 1 (time_given v) (fraction_of v)
printed_lasts sort s v above_zero f =
    let rule : Rule = rule_for sort s in
    let b = ap (λ (r : Rule). r.blank) above_zero in
    let d = ap (λ (r : Rule). r.dash) above_zero in
    let z = ap (λ (r : Rule). r.zero) above_zero in
    let m : rule.most ≤ 1000000000 = rw above_zero (lit≤ tt) in
    let g = needed rule v f b d in
    let some = range_positive rule g.digits g.power g.ranged z in
    let low = (finest rule g.digits g.power g.ranged some m g.spelled).0 in
    let e = (printed_exactly rule b d z m v f).exact in
    let across = amount_across g.digits g.power v (time_given v) g.given e.same in
    record {
      exact = e;
      some = some_amount g.digits (10 ^ place g.power) (amount (time_given v)) (10 ^ depth) across some (ten_above (place g.power));
      most =
          most_amount g.digits (10 ^ place g.power) (amount (time_given v)) (10 ^ depth) (10 ^ above g.power) (10 ^ below g.power) across
          (place_power g.power (omega arith)) (ten_above depth) (ten_above (below g.power)) (range_most rule g.digits g.power g.ranged 1000000000 m);
    }

-- ---- sums
proper_plus : {x y : Fraction} → Proper x → Proper y → Proper (plus x y)
unfolding plus
proper_plus p q = record { above_zero = mul-pos p.above_zero q.above_zero }

module _ (a b : Years) (x y : Fraction) (m n : ℕ) (few : m + n < 10) (p : Lasting m a x) (q : Lasting n b y) where
  small : amount a + amount b < 10 ^ 37
  small = omega (arith, p.most, q.most)

  pub added_told : years.together a b ≡ is (or_no_time (years.together a b))
  unfolding or_no_time
  added_told = let h = together_told a b p.exact.time q.exact.time small in rw h refl

  added_lasts : Lasting (m + n) (or_no_time (years.together a b)) (plus x y)
  unfolding in_years
  added_lasts =
      let c : Years = or_no_time (years.together a b) in
      let e = together_amount a b c added_told in
      record {
        exact =
            record {
              time = together_is_years a b c added_told;
              proper = proper_plus p.exact.proper q.exact.proper;
              same = equal_through (proper_plus (years_proper (amount a)) (years_proper (amount b))) (plus_equal p.exact.same q.exact.same) (together_same a b c added_told);
            };
        some = omega (arith, p.some);
        most = omega (arith, p.most, q.most);
      }

module _ (y : ℕ → Years) (x : ℕ → Fraction) (last : ℕ) (few : last < most_stages) (each : (j : ℕ) → j ≤ last → Lasting 1 (y j) (x j)) where
  pub together_lasts : (n : ℕ) → n ≤ last → Lasting (suc n) (years_together y n) (summed fractions x n)
  unfolding years_together summed fractions
  together_lasts zero h = each 0 (omega arith)
  together_lasts (suc n) h =
      subst (λ (k : ℕ). Lasting k (or_no_time (years.together (years_together y n) (y (suc n)))) (plus (summed fractions x n) (x (suc n)))) (omega arith)
      (added_lasts (years_together y n) (y (suc n)) (summed fractions x n) (x (suc n)) (suc n) 1 (omega arith) (together_lasts n (omega arith)) (each (suc n) h))

  pub together_is : (n : ℕ) → suc n ≤ last → years.together (years_together y n) (y (suc n)) ≡ is (years_together y (suc n))
  unfolding years_together
  together_is n h =
      added_told (years_together y n) (y (suc n)) (summed fractions x n) (x (suc n)) (suc n) 1 (omega arith) (together_lasts n (omega arith)) (each (suc n) h)

-- ---- the pair of such a time, rounded once
pub pair_good : (n : ℕ) (y : Years) (x : Fraction) → Lasting n y x → Good (answered_as 27 1 true) (years.as_pair y) x
unfolding in_years years.years_of
pair_good n y x l =
    let p = pair_answered y l.exact.time in
    rw p.1
    (good_equal (answered_as 27 1 true)
    (good_around (answered_as 27 1 true) (in_years y) p.0 (years_proper (amount y)) (pair_around y p.0 p.1) (years_sized (amount y) (amount_below y l.exact.time)) (lit≤ tt) refl (λ z. l.some))
    l.exact.proper (equal_turned l.exact.same))
