-- The exact φ where the loss is fast: for x from 63 up, 256 terms or more add to at least 10^25. Assumes nothing.
use mathlib.Core.Path.{◌≡◌}
use Prim.Native.Nat.{ℕ, zero, suc, ◌+◌, ◌*◌, ◌/◌, ◌^◌, ◌≤◌, ◌<◌}
use native.Mathlib.Nat.{mul-le-mul, mul-le-mul_right, le_of_mul-le-mul_right, mul-pos, one-le-pow, pow-zero, pow-suc, div-mul-le_self}
use native.Mathlib.Omega.{arith}
use lib.Dec.{lit≤}
use Rattle.pair.specs.Fraction.{Fraction, Proper, ◌≤ᶠ◌, plus}
use Rattle.equations.specs.Formula.{fractions}
use Rattle.equations.specs.Series.{phi, terms, exact_series}
use Rattle.equations.proofs.Tail.{factorial, factorial_above, lead, order, term, total, term_is, total_proper, total_least, total_first}
use Rattle.equations.proofs.SeriesLaws.{series_is}

-- The terms at 63, each cut to a whole number, and their sum.
whole : ℕ → ℕ
whole n = 63 ^ n / factorial (suc n)

wholes : ℕ → ℕ
wholes zero = 1
wholes (suc n) = wholes n + whole (suc n)

module _ {x : Fraction} (p : Proper x) (h : 63 * x.den ≤ x.num) where
  power_least : (n : ℕ) → 63 ^ n * x.den ^ n ≤ x.num ^ n
  power_least zero = rw (pow-zero 63, pow-zero x.den, pow-zero x.num) (omega arith)
  power_least (suc n) = rw (pow-suc 63 n, pow-suc x.den n, pow-suc x.num n) (omega (arith, mul-le-mul (power_least n) h))

  term_large : (n : ℕ) → whole n * (term phi x n).den ≤ (term phi x n).num
  unfolding whole
  term_large n =
      cancel (63 ^ n / factorial (suc n)) (factorial (suc n)) (63 ^ n) (x.den ^ n) (x.num ^ n) (term phi x n).num (term phi x n).den
      (div-mul-le_self (63 ^ n) (factorial (suc n))) (power_least n) (unfold lead order in term_is phi x n)
      (one-le-pow n x.den p.above_zero) (factorial_above (suc n))
    where
      cancel : (w f g D X a b : ℕ) → w * f ≤ g → g * D ≤ X → a * (D * f) ≡ 1 * X * b → 0 < D → 0 < f → w * b ≤ a
      cancel w f g D X a b i j e y z =
          le_of_mul-le-mul_right {k = D * f} (omega (arith, e, mul-le-mul_right (D * b) i, mul-le-mul_right b j)) (mul-pos y z)

  total_large : (n : ℕ) → wholes n * (total phi x n).den ≤ (total phi x n).num
  unfolding wholes terms fractions plus
  total_large zero = total_first x
  total_large (suc n) =
      let t : Fraction = term phi x (suc n) in
      omega (arith, mul-le-mul_right t.den (total_large n), mul-le-mul_right (total phi x n).den (term_large (suc n)))

  pub phi_large : (N : ℕ) → 256 ≤ N → 10 ^ 25 * (exact_series phi N x).den ≤ (exact_series phi N x).num
  phi_large N n =
      let k = series_is phi x N n in
      rw k.1 (on (wholes 80) (total phi x 80) (total phi x (255 + k.0)) (total_proper phi p 80) (unfold wholes whole factorial in lit≤ tt) (total_large 80) (later k.0))
    where
      on : (w : ℕ) (s t : Fraction) → Proper s → 10 ^ 25 ≤ w → w * s.den ≤ s.num → s ≤ᶠ t → 10 ^ 25 * t.den ≤ t.num
      on w s t q i j l = le_of_mul-le-mul_right {k = s.den} (omega (arith, mul-le-mul_right (s.den * t.den) i, mul-le-mul_right t.den j, l.across)) q.above_zero

      place_of : (k : ℕ) → 80 + (175 + k) ≡ 255 + k
      place_of k = omega arith

      later : (k : ℕ) → total phi x 80 ≤ᶠ total phi x (255 + k)
      later k = rw (place_of k) at (total_least phi p 80 (175 + k))
