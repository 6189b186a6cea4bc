-- Working numbers as whole numbers: what the test `is_number` says of significand and exponent, a number counted in units of a power of
-- ten, and the test `at_most` as the order of the values. Assumes nothing.
use mathlib.Core.Path.{◌≡◌, refl, sym, ◌∙◌, ap}
use mathlib.Core.Bool.{Bool, true, false, ◌&&◌, ◌||◌, or-true}
use mathlib.Core.Logic.{◌⊎◌, inl, inr, ⊎_elim, ◌↔◌}
use Prim.Native.Nat.{ℕ, ◌+◌, ◌*◌, ◌^◌, ◌≤◌, ◌<◌}
use native.Mathlib.Nat.{eq-zero-or-pos, mul-le-mul_right, mul-lt-mul_of_pos_right, le_of_mul-le-mul_right}
use native.Mathlib.Omega.{arith}
use lib.IntN.{ℤ, pos, negsuc}
use lib.Signed.{mag}
use borrow.Author.Tests.{leb-true, leb-false, le-leb}
use Rattle.pair.specs.declared.Number.{Number}
use Rattle.pair.specs.declared.Pair.{Pair}
use Rattle.pair.specs.Fraction.{Proper, ◌≤ᶠ◌}
use Rattle.pair.specs.Number as N
use Rattle.pair.specs.Number.{nine_figures, in_reach, zero_exponent, is_zero, is_number, lesser, rise, units_at, lower, at_most, is_pair, depth, place, value}
use Rattle.pair.proofs.Alignment.{Small, rise_of, lesser_below, units_scaled, order_same}
use Rattle.pair.proofs.Fractions.{◌<ᶠ◌}
use Rattle.pair.proofs.Numbers.{Nine, number_nine, number_zero, number_mag}
use Rattle.pair.proofs.Powers.{ten_above, ten_add}

pub both_from : {a b : Bool} → a ≡ true → b ≡ true → (a && b) ≡ true
both_from {a} {b} p q = rw (p, q) refl

-- for sums of exponents; a power of ten never meets it
pub depth_is : depth ≡ 1000000
unfolding depth
depth_is = refl

-- an exponent in reach, by its place and by its size
pub reach_from : (e : ℤ) → depth ≤ place e + 99999 → place e ≤ depth + 99999 → in_reach e ≡ true
unfolding in_reach depth place
reach_from (pos n) l h = le-leb n 99999 (omega arith)
reach_from (negsuc n) l h = both_from {b = true} (le-leb n 99998 (omega arith)) refl

pub size_reach : (e : ℤ) → mag e < 99999 → in_reach e ≡ true
unfolding in_reach
size_reach (pos n) h = le-leb n 99999 (omega arith)
size_reach (negsuc n) h = both_from {b = true} (le-leb n 99998 (omega arith)) refl

abbrev pub number : ℕ → ℤ → Number
number m e = record { significand = m; exponent = e }

-- what the test says: 0 as it is held, or nine figures
pub record Working (w : Number) : Type 0 where
  pub most : w.significand ≤ 999999999
  pub reach : mag w.exponent < 100000
  pub least : (w ≡ N.zero) ⊎ (100000000 ≤ w.significand)

pub working : (w : Number) → is_number w ≡ true → Working w
working w h =
    ⊎_elim
    (λ z. record { most = omega arith; reach = number_mag w h; least = inl (number_zero w h z) })
    (λ p. let n : Nine w = number_nine w h p in record { most = n.most; reach = n.reach; least = inr n.least })
    (eq-zero-or-pos w.significand)

pub zero_number : is_number N.zero ≡ true
unfolding is_number is_zero zero_exponent N.zero
zero_number = refl

-- nine figures and an exponent in reach make a number
pub number_from : (w : Number) → 100000000 ≤ w.significand → w.significand ≤ 999999999 → in_reach w.exponent ≡ true → is_number w ≡ true
unfolding is_number nine_figures
number_from w l h r =
    ap (λ (t : Bool). is_zero w || t) (both_from (both_from (le-leb 100000000 w.significand l) (le-leb w.significand 999999999 h)) r)
    ∙ or-true (is_zero w)

-- ends of one exponent, in reach, with nine figures each and in order, make a pair
pub even_pair : (p : Pair) → p.low.exponent ≡ p.high.exponent → in_reach p.low.exponent ≡ true →
    100000000 ≤ p.low.significand → p.low.significand ≤ p.high.significand → p.high.significand ≤ 999999999 → is_pair p ≡ true
unfolding is_pair
even_pair p same reach least order most =
    let a : is_number p.low ≡ true = number_from p.low least (omega arith) reach in
    let b : is_number p.high ≡ true = number_from p.high (omega arith) most (sym (ap in_reach same) ∙ reach) in
    let m : Nine p.low = number_nine p.low a (omega arith) in
    let n : Nine p.high = number_nine p.high b (omega arith) in
    both_from a (both_from b (order_same p.low p.high m n (ap place same) ∙ le-leb p.low.significand p.high.significand order))

-- 10^e counted in units of 10^s
pub power_rise : (s e : ℤ) → Small s → Small e → place s ≤ place e → 10 ^ rise s e * 10 ^ place s ≡ 10 ^ place e
power_rise s e p q l = sym (ten_add (rise s e) (place s)) ∙ ap (λ (n : ℕ). 10 ^ n) (rise_of p q l)

pub size_small : {e : ℤ} → mag e < 100000 → Small e
size_small h = record { small = omega arith }

-- two numbers in the same units
pub record Aligned (s : ℤ) (a b : Number) : Type 0 where
  pub small : Small s
  pub first : units_at s a * 10 ^ place s ≡ a.significand * 10 ^ place a.exponent
  pub second : units_at s b * 10 ^ place s ≡ b.significand * 10 ^ place b.exponent

pub aligned : (a b : Number) → Working a → Working b → Aligned (lower a b) a b
unfolding lower
aligned a b p q =
    let x : Small a.exponent = size_small p.reach in
    let y : Small b.exponent = size_small q.reach in
    let l = lesser_below x y in
    record {
      small = l.0;
      first = units_scaled a (lesser a.exponent b.exponent) x l.0 l.1;
      second = units_scaled b (lesser a.exponent b.exponent) y l.0 l.2;
    }

-- A number's value is a proper fraction.
pub value_proper : (w : Number) → Proper (value w)
unfolding value
value_proper w = record { above_zero = ten_above depth }

-- The test `at_most` is the order of the values.
pub at_most_lem : (a b : Number) → is_number a ≡ true → is_number b ≡ true → (at_most a b ≡ true) ↔ (value a ≤ᶠ value b)
unfolding at_most value
at_most_lem a b p q =
    let l : Aligned (lower a b) a b = aligned a b (working a p) (working b q) in (
      λ t.
          record {
            across =
                mul-le-mul_right (10 ^ depth)
                (omega (arith, mul-le-mul_right (10 ^ place (lower a b)) (leb-true (units_at (lower a b) a) (units_at (lower a b) b) t), l.first, l.second));
          },
      λ h.
          le-leb (units_at (lower a b) a) (units_at (lower a b) b)
          (le_of_mul-le-mul_right
          (omega (arith, le_of_mul-le-mul_right {k = 10 ^ depth} h.across (ten_above depth), l.first, l.second)) (ten_above (place (lower a b)))),
    )

-- Where the test fails, the first value is above the second.
pub not_at_most : (a b : Number) → is_number a ≡ true → is_number b ≡ true → at_most a b ≡ false → value b <ᶠ value a
unfolding at_most value
not_at_most a b p q t =
    let l : Aligned (lower a b) a b = aligned a b (working a p) (working b q) in
    record {
      across =
          mul-lt-mul_of_pos_right
          (omega (arith, mul-lt-mul_of_pos_right (leb-false (units_at (lower a b) a) (units_at (lower a b) b) t) (ten_above (place (lower a b))), l.first, l.second))
          (ten_above depth);
    }
