-- `deck::lines::printable` meets its contract. The invariant: all of the bytes passed print, or not.
-- Assumes nothing.
use Prim.Native.Nat.{◌<◌}
use borrow.Author.Rules.{rules}
use lib.ListN.{length}
use mathlib.Core.Path.{sym, ap, ◌∙◌}
use mathlib.Core.Bool.{Bool, ◌&&◌}
use lib.Dec.{leb}
use Rattle.spelling.specs.Columns.{leading}
use Rattle.deck.proofs.LineConditionLaws.{prints_on}
use Rattle.deck.proofs.lines.printable.Goals as goal

pub loop-i-preserved : goal.loop-i-preserved
loop-i-preserved c =
    let s = c.args.line.now in
    let i = c.loop-i.i in
    let here : i < length s = search rules in
    ap (λ (t : Bool). t && c.prints-all.result) c.loop-i.invariant ∙ ap (λ (t : Bool). leb i (leading 32 126 s) && t) c.prints-all.ensures ∙ sym (prints_on s i here)
