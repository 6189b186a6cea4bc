-- What it takes to be a working number, read off the tests. Assumes nothing.
use mathlib.Core.Path.{◌≡◌, refl, sym, ◌∙◌, ap, subst}
use mathlib.Core.Bool.{Bool, true, false, ◌&&◌, ◌||◌, true≢false, or-false, and-false}
use Prim.Native.Nat.{ℕ, ◌+◌, ◌≤◌, ◌<◌}
use native.Mathlib.Nat.{ne_of_gt}
use native.Mathlib.Omega.{arith}
use lib.Dec.{leb, eqb}
use lib.IntN.{ℤ, pos, negsuc, ◌+ℤ◌, ◌-ℤ◌}
use lib.Signed.{mag, le_z}
use mir.Syntax.{w32}
use mir.Val.{SFits, to_z, of_z}
use mir.Facts.{to_z-of_z}
use borrow.Author.Tests.{leb-true, le-leb, lt-leb, eqb-true, ne_eqb, eq-eqb}
use Rattle.pair.specs.declared.Number.{Number}
use Rattle.pair.specs.declared.Pair.{Pair}
use Rattle.pair.specs.Number as specs
use Rattle.pair.specs.Number.{nine_figures, in_reach, zero_exponent, is_zero, is_number, at_most, is_pair}
use Rattle.pair.proofs.Exponents.{by_cases, mag_plus, mag_minus}

-- m × 10^e with nine figures and an exponent in reach
pub record Nine (w : Number) : Type 0 where
  pub least : 100000000 ≤ w.significand
  pub most : w.significand ≤ 999999999
  pub reach : mag w.exponent < 100000

pub both : (a b : Bool) → (a && b) ≡ true → (a ≡ true) × (b ≡ true)
both true b h = (refl, h)
both false b h = absurd (true≢false (sym h))

pub reach_mag : (e : ℤ) → in_reach e ≡ true → mag e < 100000
unfolding in_reach
reach_mag (pos n) h = omega (arith, leb-true n 99999 h)
reach_mag (negsuc n) h = omega (arith, leb-true n 99998 (both (leb n 99998) true h).0)

-- an exponent neither below nor above another is that one
pub same_exponent_lem : (e f : ℤ) → (le_z f e && le_z e f) ≡ true → e ≡ f
same_exponent_lem (pos a) (pos b) h = ap pos (omega (arith, leb-true b a (both (leb b a) (leb a b) h).0, leb-true a b (both (leb b a) (leb a b) h).1))
same_exponent_lem (pos a) (negsuc b) h = absurd (true≢false (sym h))
same_exponent_lem (negsuc a) (pos b) h = absurd (true≢false (sym h))
same_exponent_lem (negsuc a) (negsuc b) h = ap negsuc (omega (arith, leb-true a b (both (leb a b) (leb b a) h).0, leb-true b a (both (leb a b) (leb b a) h).1))

zero_mag : (e : ℤ) → zero_exponent e ≡ true → e ≡ pos 0
unfolding zero_exponent
zero_mag e h = same_exponent_lem e (pos 0) h

either : {A : Type 0} (a b : Bool) → (a || b) ≡ true → (a ≡ true → A) → (b ≡ true → A) → A
either true b h f g = f refl
either false b h f g = g h

pub number_nine : (w : Number) → is_number w ≡ true → 0 < w.significand → Nine w
unfolding is_number is_zero nine_figures
number_nine w h p =
    either (is_zero w) (nine_figures w.significand && in_reach w.exponent) h
    (λ z. absurd (ne_of_gt p (eqb-true w.significand 0 (both (eqb w.significand 0) (zero_exponent w.exponent) z).0)))
    (λ n.
    record {
      least = leb-true 100000000 w.significand (both (leb 100000000 w.significand) (leb w.significand 999999999) (both (nine_figures w.significand) (in_reach w.exponent) n).0).0;
      most = leb-true w.significand 999999999 (both (leb 100000000 w.significand) (leb w.significand 999999999) (both (nine_figures w.significand) (in_reach w.exponent) n).0).1;
      reach = reach_mag w.exponent (both (nine_figures w.significand) (in_reach w.exponent) n).1;
    })

-- 0 is held in one way.
pub zero_is : (w : Number) → is_zero w ≡ true → w ≡ specs.zero
unfolding is_zero specs.zero
zero_is w h =
    let t = both (eqb w.significand 0) (zero_exponent w.exponent) h in
    λ i. record { significand = eqb-true w.significand 0 t.0 i; exponent = zero_mag w.exponent t.1 i }

pub number_zero : (w : Number) → is_number w ≡ true → w.significand ≡ 0 → w ≡ specs.zero
unfolding is_number nine_figures
number_zero w h p =
    either (is_zero w) (nine_figures w.significand && in_reach w.exponent) h (zero_is w)
    (λ n. absurd (omega (arith, leb-true 100000000 w.significand (both (leb 100000000 w.significand) (leb w.significand 999999999) (both (nine_figures w.significand) (in_reach w.exponent) n).0).0)))

pub number_mag : (w : Number) → is_number w ≡ true → mag w.exponent < 100000
unfolding is_number is_zero
number_mag w h =
    either (is_zero w) (nine_figures w.significand && in_reach w.exponent) h
    (λ z. subst (λ (e : ℤ). mag e < 100000) (sym (zero_mag w.exponent (both (eqb w.significand 0) (zero_exponent w.exponent) z).1)) (omega arith))
    (λ n. reach_mag w.exponent (both (nine_figures w.significand) (in_reach w.exponent) n).1)

pub number_reach : (w : Number) → is_number w ≡ true → in_reach w.exponent ≡ true
unfolding is_number is_zero in_reach
number_reach w h =
    either (is_zero w) (nine_figures w.significand && in_reach w.exponent) h
    (λ z. ap in_reach (zero_mag w.exponent (both (eqb w.significand 0) (zero_exponent w.exponent) z).1))
    (λ n. (both (nine_figures w.significand) (in_reach w.exponent) n).1)

-- the ends of a pair are numbers, in order
pub pair_low : (p : Pair) → is_pair p ≡ true → is_number p.low ≡ true
unfolding is_pair
pair_low p h = (both (is_number p.low) (is_number p.high && at_most p.low p.high) h).0

pub pair_high : (p : Pair) → is_pair p ≡ true → is_number p.high ≡ true
unfolding is_pair
pair_high p h = (both (is_number p.high) (at_most p.low p.high) (both (is_number p.low) (is_number p.high && at_most p.low p.high) h).1).0

pub pair_order : (p : Pair) → is_pair p ≡ true → at_most p.low p.high ≡ true
unfolding is_pair
pair_order p h = (both (is_number p.high) (at_most p.low p.high) (both (is_number p.low) (is_number p.high && at_most p.low p.high) h).1).1

-- the tests one after the other, as the code makes them
pub is_zero_number : (w : Number) → w.significand ≡ 0 → zero_exponent w.exponent ≡ is_number w
unfolding is_number is_zero nine_figures
is_zero_number w h =
    sym
    (rw (eq-eqb w.significand 0 h, lt-leb 100000000 w.significand (omega arith)) (or-false (zero_exponent w.exponent)))

pub is_nine_number : (w : Number) → (w.significand ≡ 0 → ⊥) → (nine_figures w.significand && in_reach w.exponent) ≡ is_number w
unfolding is_number is_zero
is_nine_number w h = sym (rw (ne_eqb w.significand 0 h) refl)

pub nine_figures_lem : (m : ℕ) → 100000000 ≤ m → m ≤ 999999999 → nine_figures m ≡ true
unfolding nine_figures
nine_figures_lem m h k = rw (le-leb 100000000 m h, le-leb m 999999999 k) refl

pub too_few : (m : ℕ) → m < 100000000 → nine_figures m ≡ false
unfolding nine_figures
too_few m h = rw (lt-leb 100000000 m h) refl

pub too_many : (m : ℕ) → 999999999 < m → nine_figures m ≡ false
unfolding nine_figures
too_many m h = rw (lt-leb m 999999999 h) (and-false (leb 100000000 m))

-- an i32 is read back from its bits
pub back : {z : ℤ} → mag z < 2147483648 → to_z w32 (of_z w32 z) ≡ z
back {z = z} h = to_z-of_z {w = w32} {z = z} (record { sfits = h })

-- the bits of an i32 are 0 where it is
pub zero_bits : {e : ℤ} → SFits w32 e → eqb (of_z w32 e) 0 ≡ zero_exponent e
unfolding zero_exponent
zero_bits {e = e} f =
    by_cases (zero_exponent e)
    (λ t. eq-eqb (of_z w32 e) 0 (ap (of_z w32) (zero_mag e t)) ∙ sym t)
    (λ t. ne_eqb (of_z w32 e) 0 (λ h. true≢false (rw (sym (to_z-of_z f) ∙ ap (to_z w32) h) at t)) ∙ sym t)

-- sums and differences of exponents fit an i32
pub fits_plus : (e f : ℤ) → mag e + mag f < 2000000000 → SFits w32 (e +ℤ f)
fits_plus e f h = record { sfits = omega (arith, mag_plus e f) }

pub fits_minus : (e f : ℤ) → mag e + mag f < 2000000000 → SFits w32 (e -ℤ f)
fits_minus e f h = record { sfits = omega (arith, mag_minus e f) }

pub number_back : (w : Number) → is_number w ≡ true → to_z w32 (of_z w32 w.exponent) ≡ w.exponent
number_back w h = back (omega (arith, number_mag w h))

pub number_plus : (v w : Number) → is_number v ≡ true → is_number w ≡ true → SFits w32 (to_z w32 (of_z w32 v.exponent) +ℤ to_z w32 (of_z w32 w.exponent))
number_plus v w h k = rw (number_back v h, number_back w k) (fits_plus v.exponent w.exponent (omega (arith, number_mag v h, number_mag w k)))

pub number_minus : (v w : Number) → is_number v ≡ true → is_number w ≡ true → SFits w32 (to_z w32 (of_z w32 v.exponent) -ℤ to_z w32 (of_z w32 w.exponent))
number_minus v w h k = rw (number_back v h, number_back w k) (fits_minus v.exponent w.exponent (omega (arith, number_mag v h, number_mag w k)))

-- 0 is told by the significand alone
pub none_is_zero : (w : Number) → is_number w ≡ true → w.significand ≡ 0 → is_zero w ≡ true
unfolding is_zero
none_is_zero w h z = rw (eq-eqb w.significand 0 z) (is_zero_number w z ∙ h)

pub some_is_not_zero : (w : Number) → 0 < w.significand → is_zero w ≡ false
unfolding is_zero
some_is_not_zero w p = rw (ne_eqb w.significand 0 (ne_of_gt p)) refl
