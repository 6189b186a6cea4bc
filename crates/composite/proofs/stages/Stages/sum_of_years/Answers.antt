-- A stage's years after another. Assumes nothing.
use mathlib.Core.Path.{◌≡◌, ◌∙◌}
use Prim.Native.Nat.{◌+◌}
use native.Mathlib.Omega.{arith}
use lib.ListN.{length}
use Rattle.sizes.specs.Sizes.{most_stages}
use Rattle.pair.specs.Calls.{answer}
use Rattle.composite.specs.Composite.{summed}
use Rattle.composite.specs.Inner.{year_at}
use Rattle.composite.proofs.StageLaws.{next_sum, year_is, years_summed}
use Rattle.composite.proofs.stages.Stages.sum_of_years.Goals as goal

pub loop-j-init : goal.loop-j-init
unfolding summed
loop-j-init c =
    let stages = c.args.self.now in
    let long : length stages.years ≡ most_stages = omega arith in
    c.answer-sum.ensures ∙ year_is stages.years _ 0 (omega (arith, long))

pub loop-j-preserved : goal.loop-j-preserved
loop-j-preserved c =
    let stages = c.args.self.now in
    let l = c.loop-j in
    let long : length stages.years ≡ most_stages = omega arith in
    next_sum (year_at stages.years) l.sum c.plus-sum.result (answer c.answer.result) l.j l.invariant
    (c.answer.ensures ∙ year_is stages.years _ (l.j + 1) (omega (arith, c.loop-j-test.true, stages.in_range, long))) c.plus-sum.ensures

pub returns : goal.returns
returns c =
    let stages = c.args.self.now in
    let all : c.loop-j.j ≡ stages.last = omega arith in
    (rw all at c.loop-j.invariant) ∙ years_summed stages.records stages.years stages.entered stages.last stages.in_range
