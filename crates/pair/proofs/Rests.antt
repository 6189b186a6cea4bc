-- 1 − m × 10^e, for m of at most twelve digits and m × 10^e at most 1. Assumes nothing.
use mathlib.Core.Path.{◌≡◌, refl, sym, ◌∙◌, ap}
use mathlib.Core.Bool.{Bool, true, false, not}
use Prim.Native.Nat.{ℕ, ◌+◌, ◌-◌, ◌*◌, ◌^◌, ◌≤◌, ◌<◌}
use native.Mathlib.Nat.{mul-le-mul_right, mul-lt-mul_of_pos_right, zero-mul}
use native.Mathlib.Omega.{arith}
use lib.Dec.{leb, lit<}
use lib.IntN.{ℤ, pos, negsuc}
use lib.Signed.{mag}
use borrow.Author.Tests.{le-leb, lt-leb}
use Rattle.pair.specs.Number as specs
use Rattle.pair.specs.Number.{depth, place, lesser, rise, units_at, at_most, as_printed, one, value}
use Rattle.pair.specs.Fraction.{rest}
use Rattle.pair.specs.Rounding.{extra, divided, excess_from, excess, carried, rounded, rest_end}
use Rattle.pair.proofs.Alignment.{Small, rise_of, lesser_first, lesser_second, units_own, order_scaled}
use Rattle.pair.proofs.Dividing.{divided_less}
use Rattle.pair.proofs.ExactEnds.{one_value, one_number, place_whole, whole_small, rest_ratio}
use Rattle.pair.proofs.Exponents.{same_test}
use Rattle.pair.proofs.Nearest.{rounded_itself}
use Rattle.pair.proofs.Ordered.{size_small}
use Rattle.pair.proofs.Powers.{ten_above, ten_add, ten_rises}
use Rattle.pair.proofs.Sums.{rounded_twice}

one_small : Small one.exponent
unfolding one
one_small = record { small = lit< tt }

-- how many places 10^e lies below 1
pub places : (e : ℤ) (d : ℕ) → Small e → place e ≤ place (pos 0) → d ≡ rise e (pos 0) → d + place e ≡ depth
places e d s h r = omega (arith, place_whole, rise_of s whole_small h)

-- m × 10^e against 1, counted in the least unit
share_scaled : (m : ℕ) (e : ℤ) → Small e → at_most (as_printed m e) one ≡ leb (m * 10 ^ place e) (10 ^ depth)
share_scaled m e s = order_scaled (as_printed m e) one s one_small ∙ ap (leb (m * 10 ^ place e)) one_value

pub share_from : (m : ℕ) (e : ℤ) → mag e < 100000 → m * 10 ^ place e ≤ 10 ^ depth → at_most (as_printed m e) one ≡ true
share_from m e s h = share_scaled m e (size_small s) ∙ le-leb (m * 10 ^ place e) (10 ^ depth) h

-- above 1 where e is above 0
pub share_above : (m : ℕ) (e : ℤ) → Small e → 0 < m → depth < place e → at_most (as_printed m e) one ≡ false
share_above m e s p h =
    share_scaled m e s
    ∙ lt-leb (m * 10 ^ place e) (10 ^ depth)
    (omega (arith, ten_rises {i = 1 + depth} {j = place e} (omega arith), ten_add 1 depth, ten_above depth, mul-le-mul_right {m = 1} {n = m} (10 ^ place e) p))

-- with d places, at most 1 where m is at most 10^d
pub share_is : (m d : ℕ) (e : ℤ) → Small e → d + place e ≡ depth → at_most (as_printed m e) one ≡ leb m (10 ^ d)
share_is m d e s h =
    share_scaled m e s
    ∙ sym
    (same_test m (10 ^ d) (m * 10 ^ place e) (10 ^ depth)
    (λ l. omega (arith, mul-le-mul_right (10 ^ place e) l, whole))
    (λ l. omega (arith, mul-lt-mul_of_pos_right l (ten_above (place e)), whole)))
  where
    whole : 10 ^ d * 10 ^ place e ≡ 10 ^ depth
    whole = sym (ten_add d (place e)) ∙ ap (λ (i : ℕ). 10 ^ i) h

-- what is left of 1 by 0
rest_of_one : (up : Bool) → rounded up 1 1 (pos 0) ≡ one
unfolding rounded carried divided extra excess excess_from one
rest_of_one true = refl
rest_of_one false = refl

pub rest_zero : (up : Bool) (m : ℕ) (e : ℤ) → mag e < 100000 → m ≡ 0 → rounded up 1 1 (pos 0) ≡ rest_end up (as_printed m e)
unfolding rest_end rest value
rest_zero up m e s z =
    let none : m * 10 ^ place e ≡ 0 = ap (λ (n : ℕ). n * 10 ^ place e) z ∙ zero-mul (10 ^ place e) in
    let left : 10 ^ depth - m * 10 ^ place e ≡ 10 ^ depth = omega (arith, none) in
    rest_of_one up
    ∙ sym (rounded_itself up (rest_ratio (as_printed m e) s) one one_number (record { across = rw (left, one_value) refl }))

-- by 1
pub rest_one : (up : Bool) (m : ℕ) (e : ℤ) → Small e → 0 < m → depth ≤ place e → specs.zero ≡ rest_end up (as_printed m e)
unfolding rest_end units_at
rest_one up m e s p h =
    let l : lesser e (pos 0) ≡ pos 0 = lesser_second s whole_small (omega (arith, place_whole)) in
    let t : rise (pos 0) (pos 0) ≡ 0 = omega (arith, rise_of whole_small whole_small (omega arith)) in
    rw (l, t) (nought (1 - m * 10 ^ rise (pos 0) e) (omega (arith, ten_above (rise (pos 0) e), mul-le-mul_right {m = 1} {n = m} (10 ^ rise (pos 0) e) p)))
  where
    nought : (n : ℕ) → n ≡ 0 → specs.zero ≡ rounded up n 1 (pos 0)
    nought n z = unfold rounded in rw z refl

-- with d places: 10^d − m units
pub rest_below : (up : Bool) (m d : ℕ) (e : ℤ) → Small e → d + place e ≡ depth → rounded up (10 ^ d - m) 1 e ≡ rest_end up (as_printed m e)
unfolding rest_end
rest_below up m d e s h =
    let l : lesser e (pos 0) ≡ e = lesser_first s whole_small (omega (arith, place_whole)) in
    let r : rise e (pos 0) ≡ d = omega (arith, place_whole, rise_of s whole_small (omega (arith, place_whole))) in
    sym (rw (l, r) (ap (λ (x : ℕ). rounded up (10 ^ d - x) 1 e) (units_own (as_printed m e) s)))

place_nine : place (negsuc 8) + 9 ≡ depth
unfolding depth place
place_nine = refl

-- as the code does it past twelve places: rounded at the ninth figure first, the other way
pub rest_rounded : (up : Bool) (m d : ℕ) (e : ℤ) → Small e → d + place e ≡ depth → 12 < d → m ≤ 999999999999 →
    rounded up (1000000000 - divided (not up) m (10 ^ (d - 9))) 1 (negsuc 8) ≡ rest_end up (as_printed m e)
rest_rounded up m d e s h far few =
    let g : ℕ = d - 9 in
    let tens : 10 ^ d ≡ 1000000000 * 10 ^ g = ap (λ (i : ℕ). 10 ^ i) (split far) ∙ ten_add 9 g in
    let most : m ≤ 900000000 * 10 ^ g = omega (arith, ten_rises {i = 4} {j = g} (omega arith)) in
    ap (λ (n : ℕ). rounded up n 1 (negsuc 8)) (sym (divided_less up 1000000000 m (10 ^ g) (ten_above g) (omega arith)))
    ∙ rounded_twice up (1000000000 * 10 ^ g - m) g e (negsuc 8) s (lit< tt) (omega (arith, place_nine)) (omega arith)
    ∙ ap (λ (n : ℕ). rounded up (n - m) 1 e) (sym tens)
    ∙ rest_below up m d e s h
  where
    split : 12 < d → d ≡ 9 + (d - 9)
    split l = omega arith
