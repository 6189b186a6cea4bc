-- Products and quotients of numbers of nine figures: how many figures they have, and so what is divided by what. Assumes nothing.
use mathlib.Core.Path.{◌≡◌, refl, sym, ◌∙◌, ap}
use mathlib.Core.Bool.{Bool, true}
use mathlib.Core.Logic.{⊎_elim}
use Prim.Native.Nat.{ℕ, ◌*◌, ◌≤◌, ◌<◌}
use native.Mathlib.Nat.{eq-zero-or-pos, mul-le-mul, lt_of_le_of_lt, zero-mul, mul-zero}
use native.Mathlib.Omega.{arith}
use lib.Dec.{lit<}
use lib.IntN.{ℤ, negsuc, ◌+ℤ◌}
use Rattle.pair.specs.declared.Number.{Number}
use Rattle.pair.specs.Rounding.{divided, carried, rounded, quotient_end}
use Rattle.pair.specs.Number as specs
use Rattle.pair.specs.Number.{is_number}
use Rattle.pair.proofs.Numbers.{Nine, number_nine}
use Rattle.pair.proofs.Rounds.{rounded_as}

-- the product of two significands is 0, or has 17 or 18 figures
pub product_figures : (a b : Number) → is_number a ≡ true → is_number b ≡ true →
    (0 < a.significand * b.significand → 10000000000000000 ≤ a.significand * b.significand) × (a.significand * b.significand < 1000000000000000000)
product_figures a b h k =
    ⊎_elim
    (λ z. none (ap (λ (x : ℕ). x * b.significand) z ∙ zero-mul b.significand))
    (λ p.
    ⊎_elim
    (λ z. none (ap (λ (x : ℕ). a.significand * x) z ∙ mul-zero a.significand))
    (λ q.
    let v : Nine a = number_nine a h p in
    let w : Nine b = number_nine b k q in
    (λ l. mul-le-mul v.least w.least, lt_of_le_of_lt (mul-le-mul v.most w.most) (lit< tt)))
    (eq-zero-or-pos b.significand))
    (eq-zero-or-pos a.significand)
  where
    none : a.significand * b.significand ≡ 0 →
        (0 < a.significand * b.significand → 10000000000000000 ≤ a.significand * b.significand) × (a.significand * b.significand < 1000000000000000000)
    none z = (λ p. omega arith, omega arith)

pub quotient_below : (up : Bool) (m n : ℕ) (e : ℤ) → 100000000 ≤ m → n ≤ 999999999 → 0 < n → m < n →
    carried (divided up (m * 1000000000) n) (e +ℤ negsuc 8) ≡ rounded up m n e
quotient_below up m n e h k p l = sym (rounded_as m n (m * 1000000000) n 0 p p (omega arith) (omega arith) (omega arith) up e)

pub quotient_above : (up : Bool) (m n : ℕ) (e : ℤ) → m ≤ 999999999 → 100000000 ≤ n → n ≤ m →
    carried (divided up (m * 100000000) n) (e +ℤ negsuc 7) ≡ rounded up m n e
quotient_above up m n e h k l = sym (rounded_as m n (m * 100000000) n 1 (omega arith) (omega arith) (omega arith) (omega arith) (omega arith) up e)

-- 0 divided by anything is 0
pub quotient_zero : (up : Bool) (a b : Number) → a.significand ≡ 0 → specs.zero ≡ quotient_end up a b
unfolding quotient_end rounded
quotient_zero up a b h = rw h refl
