-- A stage's years after another. Assumes nothing.
use mathlib.Core.Path.{◌≡◌, ◌∙◌}
use Prim.Native.Nat.{◌+◌}
use native.Mathlib.Omega.{arith}
use lib.ListN.{length}
use Rattle.sizes.specs.Sizes.{most_stages}
use Rattle.composite.specs.Composite.{years_together}
use Rattle.composite.specs.Inner.{time_in}
use Rattle.composite.proofs.StageLaws.{next_years, printed_is}
use Rattle.composite.proofs.stages.Stages.time_exposed.Goals as goal

pub loop-j-init : goal.loop-j-init
unfolding years_together
loop-j-init c =
    let stages = c.args.self.now in
    let many : length stages.records ≡ most_stages = omega arith in
    c.time_in-sum.ensures ∙ printed_is stages.records _ 0 (omega (arith, many))

pub loop-j-preserved : goal.loop-j-preserved
loop-j-preserved c =
    let stages = c.args.self.now in
    let l = c.loop-j in
    let many : length stages.records ≡ most_stages = omega arith in
    next_years (time_in stages.records) l.sum c.added-sum.result c.time_in.result l.j l.invariant
    (c.time_in.ensures ∙ printed_is stages.records _ (l.j + 1) (omega (arith, c.loop-j-test.true, many, stages.in_range))) c.added-sum.ensures

pub returns : goal.returns
returns c =
    let all : c.loop-j.j ≡ c.args.self.now.last = omega arith in
    rw all at c.loop-j.invariant
