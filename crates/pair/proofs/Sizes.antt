-- How large and how small exact results can be: the sizes of two operands bound the size of what an operation makes of them.
-- Assumes nothing.
use mathlib.Core.Path.{◌≡◌, ap}
use mathlib.Core.Logic.{◌⊎◌, inl, inr}
use Prim.Native.Nat.{ℕ, ◌+◌, ◌*◌, ◌^◌, ◌≤◌, ◌<◌, max}
use native.Mathlib.Nat.{mul-le-mul, mul-le-mul_right, mul-le-mul_left, le_trans, le-max_left, le-max_right}
use native.Mathlib.Omega.{arith}
use Rattle.pair.specs.Fraction.{Fraction, plus, times, over}
use Rattle.pair.specs.Promises.{Operation, sums, products, quotients, exact_result, Sized}
use Rattle.pair.proofs.Powers.{ten_rises, ten_add}
use Rattle.pair.proofs.Fractions.{Usable}

-- a wider size
pub sized_on : {j k : ℕ} {x : Fraction} → j ≤ k → Sized j x → Sized k x
sized_on {j} {k} {x} h s = record { sized = go s.sized }
  where
    go : (x.num ≡ 0) ⊎ ((x.den ≤ x.num * 10 ^ j) × (x.num ≤ x.den * 10 ^ j)) → (x.num ≡ 0) ⊎ ((x.den ≤ x.num * 10 ^ k) × (x.num ≤ x.den * 10 ^ k))
    go (inl z) = inl z
    go (inr l) = inr (le_trans l.0 (mul-le-mul_left x.num (ten_rises h)), le_trans l.1 (mul-le-mul_left x.den (ten_rises h)))

-- the size of a result, from the sizes of its operands
unfoldable pub joint : Operation → ℕ → ℕ → ℕ
joint sums j k = 1 + max j k
joint products j k = j + k
joint quotients j k = j + k

-- 0, or from 10^−k to 10^k, of a fraction a / b
abbrev Size : ℕ → ℕ → ℕ → Type 0
Size k a b = (a ≡ 0) ⊎ ((b ≤ a * 10 ^ k) × (a ≤ b * 10 ^ k))

sum_size : (k a b c d : ℕ) → Size k a b → Size k c d → Size (1 + k) (a * d + c * b) (b * d)
sum_size k a b c d (inl y) (inl z) = inl (omega (arith, ap (λ (n : ℕ). n * d) y, ap (λ (n : ℕ). n * b) z))
sum_size k a b c d (inl y) (inr l) =
    inr (
      rw (ten_add 1 k) (omega (arith, mul-le-mul_right b l.0)),
      rw (ten_add 1 k) (omega (arith, ap (λ (n : ℕ). n * d) y, mul-le-mul_right b l.1)),
    )
sum_size k a b c d (inr l) (inl z) =
    inr (
      rw (ten_add 1 k) (omega (arith, mul-le-mul_right d l.0)),
      rw (ten_add 1 k) (omega (arith, ap (λ (n : ℕ). n * b) z, mul-le-mul_right d l.1)),
    )
sum_size k a b c d (inr l) (inr m) =
    inr (
      rw (ten_add 1 k) (omega (arith, mul-le-mul_right d l.0)),
      rw (ten_add 1 k) (omega (arith, mul-le-mul_right d l.1, mul-le-mul_right b m.1)),
    )

product_size : (j k a b c d : ℕ) → Size j a b → Size k c d → Size (j + k) (a * c) (b * d)
product_size j k a b c d (inl y) s = inl (omega (arith, ap (λ (n : ℕ). n * c) y))
product_size j k a b c d (inr l) (inl z) = inl (omega (arith, ap (λ (n : ℕ). n * a) z))
product_size j k a b c d (inr l) (inr m) =
    inr (
      rw (ten_add j k) (omega (arith, mul-le-mul l.0 m.0)),
      rw (ten_add j k) (omega (arith, mul-le-mul l.1 m.1)),
    )

turned : (k c d : ℕ) → 0 < c → Size k c d → Size k d c
turned k c d p (inl z) = absurd (omega arith)
turned k c d p (inr l) = inr (l.1, l.0)

pub joint_size : (o : Operation) (j k : ℕ) {x y : Fraction} → Sized j x → Sized k y → Usable o y → Sized (joint o j k) (exact_result o x y)
unfolding joint exact_result plus times over Usable
joint_size sums j k {x} {y} s t u =
    record {
      sized =
          sum_size (max j k) x.num x.den y.num y.den (sized_on (le-max_left j k) s).sized (sized_on (le-max_right j k) t).sized;
    }
joint_size products j k {x} {y} s t u = record { sized = product_size j k x.num x.den y.num y.den s.sized t.sized }
joint_size quotients j k {x} {y} s t u =
    record { sized = product_size j k x.num x.den y.den y.num s.sized (turned k y.num y.den u t.sized) }
