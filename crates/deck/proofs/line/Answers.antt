-- `deck::line` meets its contract: the tests that led to each way out say which line it is.
-- Assumes nothing.
use Prim.Native.Nat.{ℕ, ◌*◌, ◌-◌}
use native.Mathlib.Nat.{add-sub_cancel_left}
use native.Mathlib.Omega.{arith}
use mathlib.Core.Path.{ap, sym, ◌∙◌}
use lib.ListN.{take, drop}
use Rattle.deck.specs.Parts.{deck_line_width}
use Rattle.deck.proofs.PartLaws.{line_zero, line_past, line_is}
use Rattle.deck.proofs.line.Goals as goal

pub returns-then-n-eq0 : goal.returns-then-n-eq0
returns-then-n-eq0 c = line_zero _ _ c.if-n-eq0.true

pub returns-then-deck-n : goal.returns-then-deck-n
returns-then-deck-n c = line_past _ _ c.if-deck-n.true

pub returns : goal.returns
returns c =
    let a = c.args in
    let at = deck_line_width * (a.n - 1) in
    ap (λ (k : ℕ). take k (drop at a.deck.now)) (add-sub_cancel_left at deck_line_width)
    ∙ sym (line_is a.deck.now a.n (omega (arith, c.if-n-eq0.false)) (omega (arith, c.if-deck-n.false)))
