-- Definitions for inner functions alone.
use Rattle.std.specs.Prelude.{ℕ, ◌≡◌, Bool, true, false, ◌⊎◌, negsuc}
use Rattle.pair.specs.declared.Number.{Number}
use Rattle.pair.specs.declared.Pair.{Pair}
use Rattle.pair.specs.Number.{is_pair, zero}
use Rattle.pair.specs.declared.Partial.{Partial}
use Rattle.pair.specs.Calls.{Outcome, is, after, sum, partial, compared, written}
use Rattle.equations.specs.Formula.{pairs}
use Rattle.equations.specs.Series.{Series, step}
use Rattle.equations.specs.Page.{Pace, Slow, Fast}

-- what a test for a fast loss tells
unfoldable pub paced : Bool → Pace
paced true = Fast
paced false = Slow

-- 1E-292: an x so large leaves 256 terms in the exponents' reach; its low end may be 0
unfoldable pub least : Number
least = written 1 (negsuc 291)

pub record Moderate (x : Pair) : Type 0 where
  pub pair : is_pair x ≡ true
  pub high : compared least x.high ≡ is true
  pub low : (x.low ≡ zero) ⊎ (compared least x.low ≡ is true)

-- the term after term n, and the total with it
unfoldable pub next_of : Series → Pair → ℕ → Pair → Pair → Outcome Partial
next_of s x n term total =
    let t : Outcome Pair = step pairs s (is x) n (is term) in
    partial t (after sum (is total) t)
