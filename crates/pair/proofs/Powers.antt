-- Powers of ten. Assumes nothing.
use mathlib.Core.Path.{◌≡◌, sym, subst}
use Prim.Native.Nat.{ℕ, zero, suc, ◌+◌, ◌*◌, ◌^◌, ◌≤◌, ◌<◌}
use native.Mathlib.Nat.{one-le-pow, pow-le-pow_right, pow-suc, lt_irrefl, lt_of_lt_of_le}
use native.Mathlib.Omega.{arith}
use lib.Dec.{lit<, ltb}
use borrow.Author.Tests.{ltb-true, ltb-false}
use lib.Pow.{pow-add}
use Rattle.pair.proofs.Exponents.{by_cases}

pub ten_above : (k : ℕ) → 0 < 10 ^ k
ten_above k = one-le-pow k 10 (lit< tt)

pub ten_add : (i j : ℕ) → 10 ^ (i + j) ≡ 10 ^ i * 10 ^ j
ten_add = pow-add 10

pub ten_rises : {i j : ℕ} → i ≤ j → 10 ^ i ≤ 10 ^ j
ten_rises h = pow-le-pow_right (lit< tt) h

-- a number is below the power of ten that it names
pub below_ten : (n : ℕ) → n < 10 ^ n
below_ten zero = lit< tt
below_ten (suc n) = rw (pow-suc 10 n) (omega (arith, below_ten n))

-- an exponent is below another, or at most another, where the power is
pub ten_reflects : {i j : ℕ} → 10 ^ i < 10 ^ j → i < j
ten_reflects {i} {j} h =
    by_cases (ltb i j)
    (λ t. ltb-true i j t)
    (λ t. absurd (lt_irrefl (10 ^ i) (lt_of_lt_of_le h (ten_rises (ltb-false i j t)))))

pub ten_falls : {i j : ℕ} → 10 ^ i ≤ 10 ^ j → i ≤ j
ten_falls {i} {j} h =
    by_cases (ltb j i)
    (λ t.
    let l : j < i = ltb-true j i t in
    let m : 10 ^ (1 + j) ≤ 10 ^ i = ten_rises (omega arith) in
    absurd (omega (arith, ten_add 1 j, ten_above j)))
    (λ t. ltb-false j i t)

-- 10^g, for at most eleven places, as the code has it
pub record Power (g p : ℕ) : Type 0 where
  pub is : p ≡ 10 ^ g
  pub least : 0 < p
  pub most : p ≤ 100000000000

pub power : (g p : ℕ) → g ≤ 11 → p ≡ 10 ^ g → Power g p
power g p h e =
    record {
      is = e;
      least = subst (λ (x : ℕ). 0 < x) (sym e) (ten_above g);
      most = subst (λ (x : ℕ). x ≤ 100000000000) (sym e) (ten_rises {j = 11} h);
    }
