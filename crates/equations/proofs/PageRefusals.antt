-- Both series are refused by 53 alone, at any pair. Assumes nothing.
use Prim.Native.Nat.{ℕ, zero, suc}
use Rattle.pair.specs.declared.Pair.{Pair}
use Rattle.pair.specs.Calls.{Outcome, is, after, sum, product, quotient}
use Rattle.pair.proofs.Refusals.{OnlyBy, is_by, after_by, after_one_by, entry_by, sum_by, product_by, quotient_by}
use Rattle.equations.specs.Formula.{pairs}
use Rattle.equations.specs.Series.{Series, phi, psi, first, step, terms, from_zero, pair_series}

first_by : (s : Series) → OnlyBy 53 (first pairs s)
unfolding first pairs
first_by phi = entry_by _ _
first_by psi = entry_by _ _

times_by : (x y : Outcome Pair) → OnlyBy 53 x → OnlyBy 53 y → OnlyBy 53 (after product x y)
times_by = after_by product product_by

over_by : (x y : Outcome Pair) → OnlyBy 53 x → OnlyBy 53 y → OnlyBy 53 (after quotient x y)
over_by = after_by quotient quotient_by

step_by : (s : Series) (x : Outcome Pair) (n : ℕ) (t : Outcome Pair) → OnlyBy 53 x → OnlyBy 53 t → OnlyBy 53 (step pairs s x n t)
unfolding step pairs
step_by phi x n t h k = over_by _ _ (times_by t x k h) (entry_by _ _)
step_by psi x n t h k = over_by _ _ (over_by _ _ (times_by _ _ (times_by t x k h) (entry_by _ _)) (entry_by _ _)) (entry_by _ _)

terms_by : (s : Series) (x : Outcome Pair) → OnlyBy 53 x → (n : ℕ) → OnlyBy 53 (terms pairs s x n).term × OnlyBy 53 (terms pairs s x n).total
unfolding terms pairs
terms_by s x h zero = (first_by s, first_by s)
terms_by s x h (suc n) =
    let before = terms_by s x h n in
    let t = step_by s x n (terms pairs s x n).term h before.0 in
    (t, after_by sum sum_by _ _ before.1 t)

pub series_by : (s : Series) (p : Pair) → OnlyBy 53 (pair_series s (is p))
unfolding pair_series from_zero
series_by s p =
    let t = terms_by s (is p) (is_by p) 255 in
    after_by sum sum_by _ _ t.1 (after_one_by from_zero (λ q. is_by _) _ t.0)
