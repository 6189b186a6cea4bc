-- What rounding keeps: it passes no working number, so it keeps the order, and the size, since 10^−k and 10^k are working numbers.
-- Assumes nothing.
use mathlib.Core.Path.{◌≡◌, sym, ◌∙◌, ap}
use mathlib.Core.Bool.{Bool, true, false}
use mathlib.Core.Logic.{◌⊎◌, inl, inr}
use Prim.Native.Nat.{ℕ, ◌+◌, ◌*◌, ◌^◌, ◌≤◌}
use native.Mathlib.Nat.{mul-le-mul_right, le_of_mul-le-mul_right}
use native.Mathlib.Omega.{arith}
use lib.Dec.{lit≤}
use lib.IntN.{negsuc, sub_ℕ}
use Rattle.pair.specs.declared.Number.{Number}
use Rattle.pair.specs.Fraction.{Fraction, Proper, ◌≤ᶠ◌}
use Rattle.pair.specs.Number as N
use Rattle.pair.specs.Number.{is_number, depth, place, value}
use Rattle.pair.specs.Promises.{Beside, Rounded, Sized}
use Rattle.pair.proofs.Exponents.{place_sub}
use Rattle.pair.proofs.Powers.{ten_above, ten_add}
use Rattle.pair.proofs.Fractions.{through}
use Rattle.pair.proofs.Ordered.{number, number_from, depth_is, reach_from}

-- A working number at most x is at most what x is rounded to.
pub stays_above : (up : Bool) {x : Fraction} {w : Number} → Rounded up x w → Proper x → (v : Number) → is_number v ≡ true → value v ≤ᶠ x → value v ≤ᶠ value w
unfolding Beside
stays_above false r p v n h = r.nearest v n h
stays_above true r p v n h = through p h r.side

-- A working number at least x is at least what x is rounded to.
pub stays_below : (up : Bool) {x : Fraction} {w : Number} → Rounded up x w → Proper x → (v : Number) → is_number v ≡ true → x ≤ᶠ value v → value w ≤ᶠ value v
unfolding Beside
stays_below false r p v n h = through p r.side h
stays_below true r p v n h = r.nearest v n h

-- A greater fraction is rounded to no less.
pub keeps_order : (up : Bool) {x x' : Fraction} {w w' : Number} → Rounded up x w → Rounded up x' w' → Proper x → Proper x' → x ≤ᶠ x' → value w ≤ᶠ value w'
unfolding Beside
keeps_order false {w = w} r s p q h = s.nearest w r.working (through p r.side h)
keeps_order true {w' = w'} r s p q h = r.nearest w' s.working (through q h s.side)

-- 10^k and 10^−k as working numbers
ten_up : ℕ → Number
ten_up k = number 100000000 (sub_ℕ k 8)

ten_down : ℕ → Number
ten_down k = number 100000000 (negsuc (k + 7))

place_up : (k : ℕ) → 8 + place (sub_ℕ k 8) ≡ depth + k
place_up k = omega (arith, place_sub k 8 (omega (arith, depth_is)))

place_down : (k : ℕ) → k ≤ 99991 → 8 + (place (negsuc (k + 7)) + k) ≡ depth
unfolding depth place
place_down k h = omega arith

up_number : (k : ℕ) → k ≤ 99991 → is_number (ten_up k) ≡ true
unfolding ten_up
up_number k h =
    number_from (ten_up k) (lit≤ tt) (lit≤ tt) (reach_from (sub_ℕ k 8) (omega (arith, place_up k)) (omega (arith, place_up k)))

down_number : (k : ℕ) → k ≤ 99991 → is_number (ten_down k) ≡ true
unfolding ten_down
down_number k h =
    number_from (ten_down k) (lit≤ tt) (lit≤ tt)
    (reach_from (negsuc (k + 7)) (omega (arith, place_down k h)) (omega (arith, place_down k h)))

up_is : (k : ℕ) → 100000000 * 10 ^ place (sub_ℕ k 8) ≡ 10 ^ depth * 10 ^ k
up_is k = sym (ten_add 8 (place (sub_ℕ k 8))) ∙ ap (λ (i : ℕ). 10 ^ i) (place_up k) ∙ ten_add depth k

down_is : (k : ℕ) → k ≤ 99991 → 100000000 * (10 ^ place (negsuc (k + 7)) * 10 ^ k) ≡ 10 ^ depth
down_is k h =
    ap (λ (i : ℕ). 100000000 * i) (sym (ten_add (place (negsuc (k + 7))) k))
    ∙ sym (ten_add 8 (place (negsuc (k + 7)) + k)) ∙ ap (λ (i : ℕ). 10 ^ i) (place_down k h)

zero_num : (value N.zero).num ≡ 0
unfolding value N.zero
zero_num = omega arith

-- What is 0, or from 10^−k to 10^k, stays so when rounded.
pub sized_end : (up : Bool) {x : Fraction} {w : Number} → Rounded up x w → Proper x → (k : ℕ) → Sized k x → k ≤ 99991 → Sized k (value w)
unfolding value ten_up ten_down
sized_end up {x} {w} r p k s h = record { sized = go s.sized }
  where
    low : x.den ≤ x.num * 10 ^ k → 10 ^ depth ≤ w.significand * 10 ^ place w.exponent * 10 ^ k
    low l =
        let c : value (ten_down k) ≤ᶠ value w =
        stays_above up r p (ten_down k) (down_number k h)
        (record {
          across =
              omega (arith, mul-le-mul_right (100000000 * 10 ^ place (negsuc (k + 7))) l, ap (λ (i : ℕ). x.num * i) (down_is k h));
        }) in
        omega (arith, mul-le-mul_right (10 ^ k) (le_of_mul-le-mul_right {k = 10 ^ depth} c.across (ten_above depth)), down_is k h)

    high : x.num ≤ x.den * 10 ^ k → w.significand * 10 ^ place w.exponent ≤ 10 ^ depth * 10 ^ k
    high l =
        let c : value w ≤ᶠ value (ten_up k) =
        stays_below up r p (ten_up k) (up_number k h)
        (record { across = omega (arith, mul-le-mul_right (10 ^ depth) l, ap (λ (i : ℕ). x.den * i) (up_is k)) }) in
        omega (arith, le_of_mul-le-mul_right {k = 10 ^ depth} c.across (ten_above depth), up_is k)

    go : (x.num ≡ 0) ⊎ ((x.den ≤ x.num * 10 ^ k) × (x.num ≤ x.den * 10 ^ k)) →
        (w.significand * 10 ^ place w.exponent ≡ 0) ⊎
        ((10 ^ depth ≤ w.significand * 10 ^ place w.exponent * 10 ^ k) × (w.significand * 10 ^ place w.exponent ≤ 10 ^ depth * 10 ^ k))
    go (inl z) = inl (ap (λ (v : Number). (value v).num) (r.zero_from z) ∙ zero_num)
    go (inr l) = inr (low l.0, high l.1)
