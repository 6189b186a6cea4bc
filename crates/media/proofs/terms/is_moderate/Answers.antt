-- A pair, its high end at least 1E-292, and its low end too or 0. Assumes nothing.
use mathlib.Core.Path.{◌≡◌, sym, ◌∙◌, subst}
use mathlib.Core.Bool.{true, true≢false}
use mathlib.Core.Logic.{◌⊎◌, inl, inr}
use lib.Dec.{lit≤}
use lib.IntN.{negsuc}
use Rattle.pair.specs.declared.Pair.{Pair}
use Rattle.pair.specs.Number.{is_pair, zero}
use Rattle.pair.specs.Calls.{is, answer, entry, compared}
use Rattle.pair.proofs.Promises.{zero_is}
use Rattle.media.specs.Inner.{least, Moderate}
use Rattle.media.proofs.Passing.{as_written, ok_pair}
use Rattle.media.proofs.terms.is_moderate.Goals.{then-is_ok, else-is_ok}
use Rattle.media.proofs.terms.is_moderate.Goals as goal

-- at least what is entered as 1E-292
above : (b x : Pair) → is b ≡ entry 1 (negsuc 291) → is_pair x ≡ true → compared b.low x.high ≡ is true → (x.low ≡ zero) ⊎ (compared b.low x.low ≡ is true) → Moderate x
unfolding least
above b x e p h l =
    let t = as_written 1 (negsuc 291) (lit≤ tt) (lit≤ tt) b e in
    record { pair = p; high = subst (λ (q : Pair). compared q.low x.high ≡ is true) t h; low = subst (λ (q : Pair). (x.low ≡ zero) ⊎ (compared q.low x.low ≡ is true)) t l }

pub returns-then-is_zero : goal.returns-then-is_zero
unfolding answer
returns-then-is_zero c h =
    let x = c.args.x in
    elim c.if-is_ok.branch [
      | then-is_ok w ↦ above c.in-Ok.least x c.in-Ok.ensures (ok_pair x c.checked.result c.checked.ensures (sym c.is_ok.ensures.value ∙ w.if-is_ok.true)) (w.is_at_most.ensures (sym w.value-is ∙ c.if-is_at_most.true)) (inl (zero_is x.low (sym c.is_zero.ensures ∙ h)))
      | else-is_ok w ↦ absurd (true≢false (sym c.if-is_at_most.true ∙ w.value-is ∙ w.if-is_ok.false))
    ]

pub returns-else-is_zero : goal.returns-else-is_zero
unfolding answer
returns-else-is_zero c h =
    let x = c.args.x in
    elim c.if-is_ok.branch [
      | then-is_ok w ↦ above c.in-Ok.least x c.in-Ok.ensures (ok_pair x c.checked.result c.checked.ensures (sym c.is_ok.ensures.value ∙ w.if-is_ok.true)) (w.is_at_most.ensures (sym w.value-is ∙ c.if-is_at_most.true)) (inr (c.is_at_most-else-is_zero.ensures h))
      | else-is_ok w ↦ absurd (true≢false (sym c.if-is_at_most.true ∙ w.value-is ∙ w.if-is_ok.false))
    ]
