-- The power of ten up to 19, and 10^19 from there on. Assumes nothing.
use mathlib.Core.Path.{◌≡◌, ap}
use Prim.Native.Nat.{ℕ, ◌^◌, ◌≤◌}
use native.Mathlib.Nat.{min-eq_left, min-eq_right, pow-le-pow_right}
use Rattle.powers.specs.Powers.{ten_to}
use lib.Dec.{lit≤}

pub ten_to_is : (n : ℕ) → n ≤ 19 → ten_to n ≡ 10 ^ n
unfolding ten_to
ten_to_is n h = ap (λ (i : ℕ). 10 ^ i) (min-eq_left h)

pub ten_to_most : (n : ℕ) → 19 ≤ n → ten_to n ≡ 10 ^ 19
unfolding ten_to
ten_to_most n h = ap (λ (i : ℕ). 10 ^ i) (min-eq_right h)

pub tens : (n k : ℕ) → n ≤ k → 10 ^ n ≤ 10 ^ k
tens n k h = pow-le-pow_right (lit≤ tt) h
