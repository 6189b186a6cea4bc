-- `deck::lines::is_blank` meets its contract: all of the columns after the kind are spaces.
-- Assumes nothing.
use Prim.Native.Nat.{ℕ}
use native.Mathlib.Omega.{arith}
use mathlib.Core.Path.{ap, ◌∙◌}
use lib.Dec.{eqb}
use lib.ListN.{drop, length-drop}
use lib.Seq.{take_all}
use Rattle.spelling.specs.Columns.{leading}
use Rattle.deck.proofs.lines.is_blank.Goals as goal

pub returns : goal.returns
returns c =
    let after = drop 2 c.args.line.now in
    ap (λ (n : ℕ). eqb n 78)
    (c.leading_bytes.ensures ∙ ap (leading 32 32) (take_all 79 after (omega (arith, length-drop 2 c.args.line.now, c.told-line))))
