-- Behind the point, the number is made anew. Assumes nothing.
use borrow.Author.Rules.{rules}
use mathlib.Core.Path.{ap, ◌∙◌}
use Prim.Native.Nat.{ℕ, min}
use native.Mathlib.Omega.{arith}
use mir.Facts.{to_z-of_z}
use mir.Syntax.{w32}
use mir.Val.{SFits}
use Rattle.cases.proofs.ZeroLaws.{without_is, plain_near}
use Rattle.cases.proofs.zeros.plain.Goals as goal

pub returns : goal.returns
returns c =
    let f : SFits w32 c.in-Given.power = search rules in
    let down = rw (to_z-of_z f) at c.lowered-down.ensures in
    let few = c.min.ensures in
    let zeros = c.zeros_at_end-n.ensures in
    let g : SFits w32 c.below_point.result = search rules in
    without_is _ _ _ _ _ _ _ down (to_z-of_z g) c.below_point.ensures c.ten_to.ensures (omega arith)
    ∙ plain_near _ _ _ c.in-Given.is c.if-digits-eq0.false (λ z. c.if-down-eq0.false (down ∙ z)) (rw down at c.if-down-gt-FARTHEST.false) _ _ (few ∙ ap (λ (k : ℕ). min k 19) down) zeros.0
