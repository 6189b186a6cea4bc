-- Where a test fails nothing is said; where all hold the law of even pairs does. Assumes nothing.
use mathlib.Core.Path.{◌≡◌, sym, ◌∙◌, ap}
use native.Mathlib.Omega.{arith}
use mir.Facts.{to_z-of_z}
use mir.Syntax.{w32}
use mir.Val.{SFits, to_z}
use borrow.Author.Rules.{rules}
use Rattle.pair.proofs.Ordered.{even_pair}
use Rattle.pair.proofs.is_even.Goals as goal

pub returns : goal.returns
returns c h =
    let p = c.args.p in
    let f : SFits w32 p.low.exponent = search rules in
    let g : SFits w32 p.high.exponent = search rules in
    let e : p.low.exponent ≡ p.high.exponent = rw (to_z-of_z f, to_z-of_z g) at (ap (to_z w32) c.if-low-high.false) in
    even_pair p e (rw (to_z-of_z f) at (sym c.in_reach.ensures ∙ h)) (omega arith) (omega arith) (omega arith)
