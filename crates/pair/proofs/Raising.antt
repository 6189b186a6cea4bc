-- A number with units more in its last figure, what a sum makes of a number of at most one unit, nothing at its low end and one unit more at
-- its high end, and the tests of `absorbs` and `raised` one by one. Assumes nothing.
use mathlib.Core.Path.{◌≡◌, refl, sym, ◌∙◌, ap, ap₂}
use mathlib.Core.Bool.{Bool, true, false, ◌&&◌, true≢false}
use mathlib.Core.Logic.{◌⊎◌, inl, inr, ⊎_elim}
use Prim.Native.Nat.{ℕ, ◌+◌, ◌-◌, ◌*◌, ◌^◌, ◌≤◌, ◌<◌}
use native.Mathlib.Nat.{eq-zero-or-pos, mul-le-mul, mul-le-mul_left, mul-le-mul_right, le_of_mul-le-mul_right, lt_of_mul-lt-mul_right, mul-lt-mul_of_pos_right, add-zero, add_assoc, mul-pos}
use native.Mathlib.Omega.{arith}
use lib.Dec.{ltb}
use lib.IntN.{ℤ, pos, negsuc, ◌+ℤ◌}
use lib.Signed.{mag, le_z}
use borrow.Author.Tests.{ltb-true, ltb-false, lt-ltb, le-ltb, leb-true}
use Rattle.pair.specs.declared.Number.{Number}
use Rattle.pair.specs.declared.Pair.{Pair}
use Rattle.pair.specs.Number.{is_number, is_pair, in_reach, value, place, depth, rise}
use Rattle.pair.specs.Fraction.{◌≤ᶠ◌}
use Rattle.pair.specs.Rounding.{divided, carried, rounded, sum_end, lifted}
use Rattle.pair.specs.Calls.{is, absorbs, raised, ends, sum}
use Rattle.pair.specs.Promises.{quotients, Sized, scaled}
use Rattle.pair.proofs.Exponents.{by_cases, mag_plus, place_plus, le_z_place}
use Rattle.pair.proofs.Powers.{ten_above, ten_add, ten_rises, ten_falls}
use Rattle.pair.proofs.Dividing.{divided_from}
use Rattle.pair.proofs.Numbers.{Nine, both, number_nine, number_reach}
use Rattle.pair.proofs.Alignment.{nine_small, place_next, order_above}
use Rattle.pair.proofs.Sums.{sum_rounded, sum_zero_right, nine_kept}
use Rattle.pair.proofs.Fractions.{◌<ᶠ◌, Usable}
use Rattle.pair.proofs.Ordered.{number, number_from, power_rise, reach_from, at_most_lem, value_proper, both_from}
use Rattle.pair.proofs.ExactEnds.{place_size}
use Rattle.pair.proofs.Answers.{pair, Ordered, ordered, usable_on, provided_is, provided_true, ends_are}

-- A number has figures where its value is above 0.
pub number_above : (w : Number) → 0 < w.significand → 0 < (value w).num
unfolding value
number_above w h = mul-pos h (ten_above (place w.exponent))

pub significand_above : (w : Number) → 0 < (value w).num → 0 < w.significand
unfolding value
significand_above w h = lt_of_mul-lt-mul_right (10 ^ place w.exponent) {m = 0} {n = w.significand} (omega (arith, h))

-- ---- units more, without the carry and with it
module _ (n : ℕ) (w : Number) where
  lifted_few : w.significand + n < 1000000000 → lifted n w ≡ number (w.significand + n) w.exponent
  unfolding lifted
  lifted_few h = rw (lt-ltb (w.significand + n) 1000000000 h) refl

  lifted_more : 1000000000 ≤ w.significand + n → lifted n w ≡ number (w.significand + n - 900000000) (w.exponent +ℤ pos 1)
  unfolding lifted
  lifted_more h = rw (le-ltb (w.significand + n) 1000000000 h) refl

-- none more, one more as rounding carries it, and more again
pub lifted_none : (w : Number) → w.significand ≤ 999999999 → lifted 0 w ≡ w
lifted_none w h = lifted_few 0 w (omega arith) ∙ ap (λ (m : ℕ). number m w.exponent) (add-zero w.significand)

lifted_one : (w : Number) → w.significand ≤ 999999999 → carried (w.significand + 1) w.exponent ≡ lifted 1 w
unfolding carried lifted
lifted_one w h =
    by_cases (ltb (w.significand + 1) 1000000000)
    (λ t. rw t refl)
    (λ t. rw t (ap (λ (m : ℕ). number m (w.exponent +ℤ pos 1)) (full (ltb-false (w.significand + 1) 1000000000 t))))
  where
    full : 1000000000 ≤ w.significand + 1 → 100000000 ≡ w.significand + 1 - 900000000
    full l = omega arith

unit_by_unit : (n m : ℕ) (w : Number) → lifted m (number (w.significand + n) w.exponent) ≡ lifted (n + m) w
unfolding lifted
unit_by_unit n m w = rw (add_assoc w.significand n m) refl

pub lifted_on : (n m : ℕ) (w : Number) → w.significand ≤ 999999999 → n + m ≤ 256 → lifted m (lifted n w) ≡ lifted (n + m) w
lifted_on n m w h l =
    by_cases (ltb (w.significand + n) 1000000000)
    (λ t. rw (lifted_few n w (ltb-true (w.significand + n) 1000000000 t)) (unit_by_unit n m w))
    (λ t.
    let a : 1000000000 ≤ w.significand + n = ltb-false (w.significand + n) 1000000000 t in
    rw (lifted_more n w a)
    (lifted_few m (number (w.significand + n - 900000000) (w.exponent +ℤ pos 1)) (omega arith)
    ∙ ap (λ (i : ℕ). number i (w.exponent +ℤ pos 1)) (omega arith)
    ∙ sym (lifted_more (n + m) w (omega arith))))

-- A number with n units more, where its exponent is in reach: it is one, and it is n units more at least and ten times as many at most.
pub record Lifted (n : ℕ) (w v : Number) : Type 0 where
  pub working : is_number v ≡ true
  pub above : 0 < v.significand
  pub least : (w.significand + n) * 10 ^ place w.exponent ≤ v.significand * 10 ^ place v.exponent
  pub most : v.significand * 10 ^ place v.exponent ≤ (w.significand + 10 * n) * 10 ^ place w.exponent

pub lifted_working : (n : ℕ) (w : Number) → Nine w → n ≤ 256 → in_reach (lifted n w).exponent ≡ true → Lifted n w (lifted n w)
lifted_working n w nine few reach =
    by_cases (ltb (w.significand + n) 1000000000)
    (λ t.
    let a : w.significand + n < 1000000000 = ltb-true (w.significand + n) 1000000000 t in
    rw (lifted_few n w a)
    (record {
      working = number_from (number (w.significand + n) w.exponent) (omega (arith, nine.least)) (omega arith) (rw (lifted_few n w a) at reach);
      above = omega (arith, nine.least);
      least = omega arith;
      most = mul-le-mul_right (10 ^ place w.exponent) (omega arith);
    }))
    (λ t.
    let a : 1000000000 ≤ w.significand + n = ltb-false (w.significand + n) 1000000000 t in
    rw (lifted_more n w a)
    (record {
      working = number_from (number (w.significand + n - 900000000) (w.exponent +ℤ pos 1)) (omega arith) (omega (arith, nine.most)) (rw (lifted_more n w a) at reach);
      above = omega arith;
      least = rw next (omega (arith, mul-le-mul_right {m = w.significand + n} {n = (w.significand + n - 900000000) * 10} (10 ^ place w.exponent) (omega arith)));
      most = rw next (omega (arith, mul-le-mul_right {m = (w.significand + n - 900000000) * 10} {n = w.significand + 10 * n} (10 ^ place w.exponent) (omega (arith, nine.most))));
    }))
  where
    next : 10 ^ place (w.exponent +ℤ pos 1) ≡ 10 ^ place w.exponent * 10
    next = ap (λ (i : ℕ). 10 ^ i) (place_next (nine_small nine)) ∙ ten_add (place w.exponent) 1

-- It rises with the number.
module _ (n : ℕ) (w v : Number) (nine-w : Nine w) (nine-v : Nine v) (rising : w.significand * 10 ^ place w.exponent ≤ v.significand * 10 ^ place v.exponent) (up : Lifted n v (lifted n v)) where
  not_higher : place w.exponent ≤ place v.exponent
  not_higher =
      by_cases (ltb (place v.exponent) (place w.exponent))
      (λ t.
      absurd
      (omega
      (arith, ten_rises {i = 1 + place v.exponent} (next (ltb-true (place v.exponent) (place w.exponent) t)), ten_add 1 (place v.exponent), mul-le-mul_right (10 ^ place w.exponent) nine-w.least, mul-le-mul_right (10 ^ place v.exponent) nine-v.most, ten_above (place v.exponent))))
      (ltb-false (place v.exponent) (place w.exponent))
    where
      next : place v.exponent < place w.exponent → 1 + place v.exponent ≤ place w.exponent
      next l = omega arith

  -- with a carry: v carries too, or lies a place higher
  carry_rises : 1000000000 ≤ w.significand + n → (w.significand + n - 900000000) * 10 ^ (place w.exponent + 1) ≤ (lifted n v).significand * 10 ^ place (lifted n v).exponent
  carry_rises a =
      by_cases (ltb (place w.exponent) (place v.exponent))
      (λ t.
      let l : 10 ^ (place w.exponent + 1) ≤ 10 ^ place v.exponent = ten_rises (omega (arith, ltb-true (place w.exponent) (place v.exponent) t)) in
      omega (arith, up.least, mul-le-mul {n₁ = w.significand + n - 900000000} {m₁ = 10 ^ (place w.exponent + 1)} {n₂ = v.significand + n} (omega (arith, nine-w.most, nine-v.least)) l))
      (λ t.
      let same : place v.exponent ≡ place w.exponent = omega (arith, not_higher, ltb-false (place w.exponent) (place v.exponent) t) in
      let more : w.significand ≤ v.significand = le_of_mul-le-mul_right {k = 10 ^ place w.exponent} (rw same at rising) (ten_above (place w.exponent)) in
      rw (lifted_more n v (omega arith), place_next (nine_small nine-v), same) (mul-le-mul_right (10 ^ (place w.exponent + 1)) (omega arith)))

  pub lifted_rises : (lifted n w).significand * 10 ^ place (lifted n w).exponent ≤ (lifted n v).significand * 10 ^ place (lifted n v).exponent
  lifted_rises =
      by_cases (ltb (w.significand + n) 1000000000)
      (λ t. rw (lifted_few n w (ltb-true (w.significand + n) 1000000000 t)) (omega (arith, up.least, rising, mul-le-mul_left n (ten_rises not_higher))))
      (λ t.
      let a : 1000000000 ≤ w.significand + n = ltb-false (w.significand + n) 1000000000 t in
      rw (lifted_more n w a, place_next (nine_small nine-w)) (carry_rises a))

-- room for the carry
pub Room : Number → Type 0
Room w = place w.exponent ≤ depth + 99990

pub lifted_reach : (n : ℕ) (w : Number) → is_number w ≡ true → 0 < w.significand → Room w → in_reach (lifted n w).exponent ≡ true
unfolding Room
lifted_reach n w v above room =
    by_cases (ltb (w.significand + n) 1000000000)
    (λ t. rw (lifted_few n w (ltb-true (w.significand + n) 1000000000 t)) (number_reach w v))
    (λ t. rw (lifted_more n w (ltb-false (w.significand + n) 1000000000 t)) (reach_from (w.exponent +ℤ pos 1) (omega (arith, (place_size w.exponent nine.reach).0, next)) (omega (arith, next))))
  where
    nine : Nine w
    nine = number_nine w v above

    next : place (w.exponent +ℤ pos 1) ≡ place w.exponent + 1
    next = place_next (nine_small nine)

-- ---- a sum with at most one unit
-- a number of at most 10^e, in units of a place that is not below
unit_most : (e : ℤ) (t : Number) (f : ℤ) → value t ≤ᶠ scaled 1 e → place e ≤ place f → t.significand * 10 ^ place t.exponent ≤ 10 ^ place f
unfolding value scaled
unit_most e t f h l =
    let a : t.significand * 10 ^ place t.exponent ≤ 1 * 10 ^ place e = le_of_mul-le-mul_right {k = 10 ^ depth} h.across (ten_above depth) in
    omega (arith, ten_rises l)

-- what adding such a number does to one end of a sum: w stays at its low end, and gains one unit at its high end
module _ (e : ℤ) (w t : Number) (v : is_number w ≡ true) (above : 0 < w.significand) (far : place e ≤ place w.exponent) (n : is_number t ≡ true) where
  nine : Nine w
  nine = number_nine w v above

  not_above : value t ≤ᶠ scaled 1 e → 0 < t.significand → place t.exponent ≤ place w.exponent
  not_above h p = ten_falls (omega (arith, unit_most e t w.exponent h far, mul-le-mul_right {m = 1} {n = t.significand} (10 ^ place t.exponent) p))

  unit_is : value t ≤ᶠ scaled 1 e → 0 < t.significand → 10 ^ rise t.exponent w.exponent * 10 ^ place t.exponent ≡ 10 ^ place w.exponent
  unit_is h p = power_rise t.exponent w.exponent (nine_small (number_nine t n p)) (nine_small nine) (not_above h p)

  pub one_unit_more : value t ≤ᶠ scaled 1 e → 0 < t.significand → sum_end true w t ≡ lifted 1 w
  one_unit_more h p =
      let g : ℕ = rise t.exponent w.exponent in
      let most : t.significand ≤ 10 ^ g = le_of_mul-le-mul_right {k = 10 ^ place t.exponent} (omega (arith, unit_most e t w.exponent h far, unit_is h p)) (ten_above (place t.exponent)) in
      let one : divided true t.significand (10 ^ g) ≡ 1 = divided_from true t.significand (10 ^ g) 1 (ten_above g) (omega arith, omega arith) in
      sym (sum_rounded true w t nine (number_nine t n p) (not_above h p))
      ∙ ap (λ (q : ℕ). rounded true (w.significand + q) 1 w.exponent) one
      ∙ nine_kept true (w.significand + 1) w.exponent nine.reach (omega (arith, nine.least)) (omega (arith, nine.most))
      ∙ lifted_one w nine.most

  itself : carried w.significand w.exponent ≡ w
  unfolding carried
  itself = rw (lt-ltb w.significand 1000000000 (omega (arith, nine.most))) refl

  pub below_unit : value t <ᶠ scaled 1 e → t.significand * 10 ^ place t.exponent < 10 ^ place w.exponent
  unfolding value scaled
  below_unit h =
      omega (arith, lt_of_mul-lt-mul_right (10 ^ depth) {m = t.significand * 10 ^ place t.exponent} {n = 1 * 10 ^ place e} h.across, ten_rises far)

  pub nothing_more : value t <ᶠ scaled 1 e → sum_end false w t ≡ w
  nothing_more h = ⊎_elim (λ z. sym (sum_zero_right false w t v above n z)) some (eq-zero-or-pos t.significand)
    where
      most : value t ≤ᶠ scaled 1 e
      most = record { across = omega (arith, h.across) }

      some : 0 < t.significand → sum_end false w t ≡ w
      some p =
          let g : ℕ = rise t.exponent w.exponent in
          let less : t.significand < 10 ^ g = lt_of_mul-lt-mul_right (10 ^ place t.exponent) {m = t.significand} {n = 10 ^ g} (omega (arith, below_unit h, unit_is most p)) in
          let none : divided false t.significand (10 ^ g) ≡ 0 = divided_from false t.significand (10 ^ g) 0 (ten_above g) (omega arith, omega arith) in
          sym (sum_rounded false w t nine (number_nine t n p) (not_above most p))
          ∙ ap (λ (q : ℕ). rounded false (w.significand + q) 1 w.exponent) none
          ∙ ap (λ (q : ℕ). rounded false q 1 w.exponent) (add-zero w.significand)
          ∙ nine_kept false w.significand w.exponent nine.reach nine.least (omega (arith, nine.most))
          ∙ itself

-- ---- `absorbs` and `raised`
-- What is absorbed: the tests after the pairs', and the last of them, which decides.
module _ (p q : Pair) where
  abbrev far : Bool
  far = le_z (q.high.exponent +ℤ pos 9) p.low.exponent

  abbrev rest_of_them : Bool
  rest_of_them = ltb 0 p.low.significand && (ltb 0 q.high.significand && far)

  pub absorbs_far : is_pair p ≡ true → is_pair q ≡ true → 0 < p.low.significand → 0 < q.high.significand → far ≡ absorbs p q
  unfolding absorbs
  absorbs_far a b c d = sym (rw (a, b, lt-ltb 0 p.low.significand c, lt-ltb 0 q.high.significand d) refl)

-- What is raised.
module _ (n : ℕ) (p : Pair) where
  pub raised_worked : is_pair p ≡ true → 0 < p.high.significand → ends p.low (lifted n p.high) ≡ raised n p
  unfolding raised
  raised_worked h k = sym (provided_true (ends p.low (lifted n p.high)) (both_from h (lt-ltb 0 p.high.significand k)))

pub record RaisedTold (n : ℕ) (p r : Pair) : Type 0 where
  pub operand : is_pair p ≡ true
  pub above : 0 < p.high.significand
  pub reach : in_reach (lifted n p.high).exponent ≡ true
  pub ends_is : r ≡ pair p.low (lifted n p.high)

pub raised_told : (n : ℕ) (p r : Pair) → raised n p ≡ is r → RaisedTold n p r
unfolding raised
raised_told n p r h =
    let t = provided_is (is_pair p && ltb 0 p.high.significand) (ends p.low (lifted n p.high)) r h in
    let a = both (is_pair p) (ltb 0 p.high.significand) t.0 in
    let e = ends_are p.low (lifted n p.high) r t.1 in
    record { operand = a.0; above = ltb-true 0 p.high.significand a.1; reach = e.1; ends_is = e.2 }

-- a term that is above 0 at its high end and at most 10^e, below it at its low end
pub record Under (e : ℤ) (t : Pair) : Type 0 where
  pub pair : is_pair t ≡ true
  pub low : value t.low <ᶠ scaled 1 e
  pub high : value t.high ≤ᶠ scaled 1 e
  pub above : 0 < (value t.high).num

-- a sum above 0 of which 10^e is at most one unit of the low end's last figure
pub record Far (e : ℤ) (s : Pair) : Type 0 where
  pub pair : is_pair s ≡ true
  pub above : 0 < s.low.significand
  pub far : place e ≤ place s.low.exponent

module _ (e : ℤ) (s : Pair) (h : Far e s) where
  order : Ordered s
  order = ordered s h.pair

  pub high_above_lem : 0 < s.high.significand
  unfolding Usable
  high_above_lem = significand_above s.high (usable_on quotients (value_proper s.high) (number_above s.low h.above) order.rising)

  high_far : place e ≤ place s.high.exponent
  high_far =
      by_cases (ltb (place s.high.exponent) (place s.low.exponent))
      (λ t.
      absurd
      (true≢false
      (sym ((at_most_lem s.low s.high order.low order.high).1 order.rising)
      ∙ order_above s.low s.high (number_nine s.low order.low h.above) (number_nine s.high order.high high_above_lem) (ltb-true (place s.high.exponent) (place s.low.exponent) t))))
      (λ t. omega (arith, h.far, ltb-false (place s.high.exponent) (place s.low.exponent) t))

  -- One such term more: the low end stays, and the high end gains one unit.
  pub far_sum : (t : Pair) → Under e t → sum s t ≡ raised 1 s
  unfolding sum
  far_sum t u =
      let o : Ordered t = ordered t u.pair in
      provided_true (ends (sum_end false s.low t.low) (sum_end true s.high t.high)) (both_from h.pair u.pair)
      ∙ ap₂ ends
      (nothing_more e s.low t.low order.low h.above h.far o.low u.low)
      (one_unit_more e s.high t.high order.high high_above_lem high_far o.high u.high (significand_above t.high u.above))
      ∙ raised_worked 1 s h.pair high_above_lem

nine_more : (e : ℤ) → mag e < 100000 → place (e +ℤ pos 9) ≡ place e + 9
unfolding depth place
nine_more e h = omega (arith, place_plus e (pos 9) (omega arith))

-- a number of nine figures lies below ten to the ninth power after its exponent's
pub below_next : (w : Number) → Nine w → value w <ᶠ scaled 1 (w.exponent +ℤ pos 9)
unfolding value scaled
below_next w n =
    record {
      across =
          rw (nine_more w.exponent n.reach, ten_add (place w.exponent) 9)
          (mul-lt-mul_of_pos_right (omega (arith, mul-lt-mul_of_pos_right {m = w.significand} {n = 1000000000} (omega (arith, n.most)) (ten_above (place w.exponent)))) (ten_above depth));
    }

low_below : (t : Pair) (e : ℤ) → is_pair t ≡ true → value t.high <ᶠ scaled 1 e → value t.low <ᶠ scaled 1 e
unfolding value scaled
low_below t e h l = record { across = omega (arith, l.across, (ordered t h).rising.across) }

not_below : (e f : ℤ) → mag e < 100000 → mag f < 100000 → le_z (e +ℤ pos 9) f ≡ true → place (e +ℤ pos 9) ≤ place f
unfolding depth
not_below e f h k l = leb-true (place (e +ℤ pos 9)) (place f) (sym (le_z_place (e +ℤ pos 9) f (omega (arith, mag_plus e (pos 9))) (omega arith)) ∙ l)

-- What a sum absorbs is under a bound that is far below it.
pub absorbing : (s t : Pair) → absorbs s t ≡ true → Far (t.high.exponent +ℤ pos 9) s × Under (t.high.exponent +ℤ pos 9) t
unfolding absorbs
absorbing s t h =
    let i = both (is_pair s) (is_pair t && rest_of_them s t) h in
    let j = both (is_pair t) (rest_of_them s t) i.1 in
    let k = both (ltb 0 s.low.significand) (ltb 0 t.high.significand && far s t) j.1 in
    let l = both (ltb 0 t.high.significand) (far s t) k.1 in
    let a : 0 < s.low.significand = ltb-true 0 s.low.significand k.0 in
    let c : 0 < t.high.significand = ltb-true 0 t.high.significand l.0 in
    let nine : Nine t.high = number_nine t.high (ordered t j.0).high c in
    let less : value t.high <ᶠ scaled 1 (t.high.exponent +ℤ pos 9) = below_next t.high nine in (
      record { pair = i.0; above = a; far = not_below t.high.exponent s.low.exponent nine.reach (number_nine s.low (ordered s i.0).low a).reach l.1 },
      record { pair = j.0; low = low_below t (t.high.exponent +ℤ pos 9) j.0 less; high = record { across = omega (arith, less.across) }; above = number_above t.high c },
    )

-- A number's size tells its exponent.
mag_from : (e : ℤ) → depth ≤ place e + 99000 → place e ≤ depth + 99000 → mag e ≤ 99000
unfolding depth place
mag_from (pos n) l h = omega arith
mag_from (negsuc n) l h = omega arith

pub sized_exponent : (w : Number) (k : ℕ) → is_number w ≡ true → 0 < (value w).num → Sized k (value w) → k ≤ 90000 →
    (mag (w.exponent +ℤ pos 9) ≤ 99000) × Room w
unfolding value Room
sized_exponent w k n p s l = go s.sized
  where
    nine' : Nine w
    nine' = number_nine w n (significand_above w p)

    go : (w.significand * 10 ^ place w.exponent ≡ 0) ⊎ ((10 ^ depth ≤ w.significand * 10 ^ place w.exponent * 10 ^ k) × (w.significand * 10 ^ place w.exponent ≤ 10 ^ depth * 10 ^ k)) →
        (mag (w.exponent +ℤ pos 9) ≤ 99000) × Room w
    go (inl z) = absurd (omega arith)
    go (inr b) =
        let most : place w.exponent + 8 ≤ depth + k =
        ten_falls (rw (ten_add (place w.exponent) 8, ten_add depth k) (omega (arith, b.1, mul-le-mul_right (10 ^ place w.exponent) nine'.least))) in
        let least : depth ≤ 9 + place w.exponent + k =
        ten_falls
        (rw (ten_add (9 + place w.exponent) k, ten_add 9 (place w.exponent))
        (omega (arith, b.0, mul-le-mul_right (10 ^ k) (mul-le-mul_right {m = w.significand} {n = 1000000000} (10 ^ place w.exponent) (omega (arith, nine'.most)))))) in (
          mag_from (w.exponent +ℤ pos 9) (omega (arith, nine_more w.exponent nine'.reach)) (omega (arith, nine_more w.exponent nine'.reach)),
          omega arith,
        )
