-- How many figures a quotient has beyond nine: the search finds a k with 10^(8+k) ≤ n / d < 10^(9+k), and there is only one.
-- Assumes nothing.
use mathlib.Core.Path.{◌≡◌, subst}
use mathlib.Core.Bool.{true, false}
use Prim.Native.Nat.{ℕ, zero, suc, ◌+◌, ◌*◌, ◌^◌, ◌≤◌, ◌<◌}
use native.Mathlib.Nat.{mul-le-mul_left, le_trans, lt_of_lt_of_le, lt_irrefl, le-mul_of_pos_right, mul_comm, le_antisymm}
use native.Mathlib.Omega.{arith}
use lib.Dec.{ltb}
use borrow.Author.Tests.{ltb-true, ltb-false}
use Rattle.pair.specs.Rounding.{excess_from, excess}
use Rattle.pair.proofs.Exponents.{by_cases}
use Rattle.pair.proofs.Powers.{ten_rises, below_ten}

-- n / d has 9 + k figures
pub record Beyond (n d k : ℕ) : Type 0 where
  pub least : d * 10 ^ (8 + k) ≤ n
  pub most : n < d * 10 ^ (9 + k)

step_done : (tries k n d : ℕ) → ltb n (d * 10 ^ (9 + k)) ≡ true → excess_from (suc tries) k n d ≡ k
unfolding excess_from
step_done tries k n d t = rw (t, excess_from)

step_on : (tries k n d : ℕ) → ltb n (d * 10 ^ (9 + k)) ≡ false → excess_from (suc tries) k n d ≡ excess_from tries (suc k) n d
unfolding excess_from
step_on tries k n d t = rw (t, excess_from)

from : (tries k n d : ℕ) → d * 10 ^ (8 + k) ≤ n → n < d * 10 ^ (9 + (k + tries)) → Beyond n d (excess_from tries k n d)
unfolding excess_from
from zero k n d l h = record { least = l; most = subst (λ (j : ℕ). n < d * 10 ^ (9 + j)) (omega arith) h }
from (suc tries) k n d l h =
    by_cases (ltb n (d * 10 ^ (9 + k)))
    (λ t. rw (step_done tries k n d t) (record { least = l; most = ltb-true n (d * 10 ^ (9 + k)) t }))
    (λ t.
    rw (step_on tries k n d t)
    (from tries (suc k) n d
    (subst (λ (j : ℕ). d * 10 ^ j ≤ n) (omega arith) (ltb-false n (d * 10 ^ (9 + k)) t))
    (subst (λ (j : ℕ). n < d * 10 ^ (9 + j)) (omega arith) h)))

-- the search ends in time
pub excess_beyond : (n d : ℕ) → 0 < d → d * 100000000 ≤ n → Beyond n d (excess n d)
unfolding excess
excess_beyond n d p l =
    from n 0 n d l
    (lt_of_lt_of_le (below_ten n)
    (le_trans (ten_rises (omega arith)) (subst (λ (m : ℕ). 10 ^ (9 + (0 + n)) ≤ m) (mul_comm (10 ^ (9 + (0 + n))) d) (le-mul_of_pos_right (10 ^ (9 + (0 + n))) p))))

-- only one k fits
only : {n d j k : ℕ} → Beyond n d j → Beyond n d k → j ≤ k
only {n} {d} {j} {k} p q =
    by_cases (ltb k j)
    (λ t. absurd (lt_irrefl n
    (lt_of_lt_of_le q.most (le_trans (mul-le-mul_left d (ten_rises (suc_le k j (ltb-true k j t)))) p.least))))
    (λ t. ltb-false k j t)
  where
    suc_le : (a b : ℕ) → a < b → 9 + a ≤ 8 + b
    suc_le a b h = omega arith

pub excess_is : (n d k : ℕ) → 0 < d → Beyond n d k → excess n d ≡ k
excess_is n d k p b =
    let e : Beyond n d (excess n d) = excess_beyond n d p (le_trans (mul-le-mul_left d (ten_rises (eight k))) b.least) in
    le_antisymm (only e b) (only b e)
  where
    eight : (j : ℕ) → 8 ≤ 8 + j
    eight j = omega arith
