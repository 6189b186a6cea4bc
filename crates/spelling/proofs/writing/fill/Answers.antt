-- `spelling::writing::fill` meets its contract. The loop's invariant: the columns left, filled with the digits left after spaces, and those
-- filled already are the whole. Assumes nothing.
use mathlib.Core.Path.{◌≡◌, refl, ap, ◌∙◌}
use mathlib.Core.List.{List, ◌++◌}
use Prim.Native.Nat.{ℕ, ◌-◌, ◌+◌}
use native.Mathlib.Omega.{arith}
use borrow.Author.Rules.{rules}
use lib.Seq.{length-take-le}
use lib.ListN.{length-set, replicate, drop}
use Rattle.spelling.proofs.Filling.{filled_more, filled_last, filled_all, filled_spaced}
use Rattle.spelling.proofs.writing.fill.Goals as goal

pub loop-at-init : goal.loop-at-init
loop-at-init c = record {
  as_long = refl;
  inside = simp length-set (omega arith);
  whole = simp length-set (filled_last c.args.n c.args.last c.args.part.now c.requires);
}

pub returns-then-left-eq0 : goal.returns-then-left-eq0
returns-then-left-eq0 c =
    let l = c.loop-at in
    let here : l.at - 1 + 1 ≡ l.at = omega arith in
    let whole = simp length-set at l.invariant.whole in
    let spaces : c.fill.new.self ≡ replicate l.at 32 = search (rules, length-take-le) in
    ap (λ (s : List ℕ). s ++ drop (l.at - 1 + 1) l.part) spaces
    ∙ ap (λ (n : ℕ). replicate l.at 32 ++ drop n l.part) here
    ∙ filled_spaced l.at l.part _ (rw c.if-left-eq0.true at whole)

pub loop-at-preserved : goal.loop-at-preserved
loop-at-preserved c =
    let l = c.loop-at in
    record {
      as_long = simp length-set (simp length-set at l.invariant.as_long);
      inside = simp length-set (omega (arith, l.invariant.inside));
      whole = filled_more l.at l.left c.digit.result l.part _ (omega arith) (omega (arith, l.invariant.inside)) (omega arith) c.digit.ensures l.invariant.whole;
    }

pub returns : goal.returns
returns c =
    let l = c.loop-at in
    let none : l.at ≡ 0 = omega arith in
    let whole = simp length-set at l.invariant.whole in
    filled_all l.left l.part _ (rw none at whole)
