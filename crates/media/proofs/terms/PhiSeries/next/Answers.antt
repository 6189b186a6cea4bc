-- φ's step is one call. Assumes nothing.
use mathlib.Core.Path.{◌≡◌, sym, ◌∙◌, ap}
use Prim.Native.Nat.{ℕ, ◌+◌}
use lib.IntN.{pos}
use Rattle.pair.specs.declared.Pair.{Pair}
use Rattle.pair.specs.Calls.{Outcome, is, after, entry, sum, product, quotient, partial, next_term}
use Rattle.pair.proofs.ChainPromises.{next_term_told}
use Rattle.equations.specs.Formula.{pairs}
use Rattle.equations.specs.Series.{phi, step}
use Rattle.media.specs.Inner.{next_of}
use Rattle.media.proofs.terms.PhiSeries.next.Goals as goal

made : (x term total d : Pair) (n : ℕ) → entry (n + 2) (pos 0) ≡ is d → next_term term total x d ≡ next_of phi x n term total
unfolding next_of step pairs after
made x term total d n h =
    next_term_told term total x d
    ∙ ap (λ (u : Outcome Pair). let t : Outcome Pair = after quotient (product term x) u in partial t (after sum (is total) t)) (sym h)

pub returns : goal.returns
returns c =
    let a = c.args in
    c.next_term.ensures ∙ made a.x a.term a.total a.whole a._n c.requires.whole_value
