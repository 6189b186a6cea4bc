-- A stage after another. Assumes nothing.
use mathlib.Core.Path.{◌≡◌, ◌∙◌}
use Prim.Native.Nat.{◌+◌}
use native.Mathlib.Omega.{arith}
use lib.ListN.{length}
use Rattle.sizes.specs.Sizes.{most_stages}
use Rattle.pair.specs.Calls.{after}
use Rattle.composite.specs.Composite.{summed}
use Rattle.composite.specs.Inner.{weight_at}
use Rattle.composite.proofs.StageLaws.{next_sum, weight_is}
use Rattle.composite.proofs.stages.Stages.weighted_sum.Goals as goal

pub loop-j-init : goal.loop-j-init
unfolding summed after
loop-j-init c =
    let stages = c.args.self.now in
    let many : length stages.records ≡ most_stages = omega arith in
    let long : length stages.years ≡ most_stages = omega arith in
    c.product-sum.ensures ∙ weight_is stages.records stages.years _ _ 0 c.args.k (omega (arith, many)) (omega (arith, long)) c.value_in.result c.value_in.ensures

pub loop-j-preserved : goal.loop-j-preserved
loop-j-preserved c =
    let stages = c.args.self.now in
    let l = c.loop-j in
    let more = c.loop-j-test.true in
    let many : length stages.records ≡ most_stages = omega arith in
    let long : length stages.years ≡ most_stages = omega arith in
    next_sum (weight_at stages.records stages.years c.args.k) l.sum c.plus_product-sum.result _ l.j l.invariant
    (weight_is stages.records stages.years _ _ (l.j + 1) c.args.k (omega (arith, more, many, stages.in_range)) (omega (arith, more, long, stages.in_range)) c.value_in-in-loop-j.result c.value_in-in-loop-j.ensures) c.plus_product-sum.ensures

pub returns : goal.returns
returns c =
    let all : c.loop-j.j ≡ c.args.self.now.last = omega arith in
    rw all at c.loop-j.invariant
