-- The two series of the page, φ (document 01, "Loss and series") and ψ (document 02, P4). Each has its first term and the step from one term
-- to the next; its value is the sum of its terms.
use Rattle.std.specs.Prelude.{ℕ, zero, suc, ◌+◌, pos, negsuc}
use Rattle.pair.specs.declared.Pair.{Pair}
use Rattle.pair.specs.Fraction.{Fraction}
use Rattle.pair.specs.Number as numbers
use Rattle.pair.specs.Calls.{Outcome, is, after, after_one, sum}
use Rattle.equations.specs.Formula.{Algebra, pairs, fractions}

pub data Series : Type 0 where
  phi psi : Series

-- t0 = 1, and s0 = 1/2
unfoldable pub first : {A : Type 0} → Algebra A → Series → A
first alg phi = alg.number 1 (pos 0)
first alg psi = alg.number 5 (negsuc 0)

-- from term n to the next: tn = t(n−1) × x / (n + 1), and sn = s(n−1) × x × (n + 1) / n / (n + 2), here with n + 1 for n
unfoldable pub step : {A : Type 0} → Algebra A → Series → A → ℕ → A → A
step alg phi x n t = alg.over (alg.times t x) (alg.number (n + 2) (pos 0))
step alg psi x n s =
    alg.over (alg.over (alg.times (alg.times s x) (alg.number (n + 2) (pos 0))) (alg.number (n + 1) (pos 0))) (alg.number (n + 3) (pos 0))

-- a term and the sum of the terms up to it
pub record Terms (A : Type 0) : Type 0 where
  pub term : A
  pub total : A

-- terms 0 to n
unfoldable pub terms : {A : Type 0} → Algebra A → Series → A → ℕ → Terms A
terms alg s x zero = record { term = first alg s; total = first alg s }
terms alg s x (suc n) =
    let before = terms alg s x n in
    let t = step alg s x n before.term in
    record { term = t; total = alg.plus before.total t }

-- a pair from 0 to the high end of another: adding it adds that high end to the high end alone
unfoldable pub from_zero : Pair → Outcome Pair
from_zero p = is (record { low = numbers.zero; high = p.high })

-- on pairs: 256 terms, and the last one's high end once more to the high end
unfoldable pub pair_series : Series → Outcome Pair → Outcome Pair
pair_series s x =
    let t = terms pairs s x 255 in
    after sum t.total (after_one from_zero t.term)

-- exactly: N terms, 0 to N − 1, unrounded
unfoldable pub exact_series : Series → ℕ → Fraction → Fraction
exact_series s zero x = record { num = 0; den = 1 }
exact_series s (suc n) x = (terms fractions s x n).total
