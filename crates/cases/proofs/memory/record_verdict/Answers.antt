-- No slot so far stops. Assumes nothing.
use mathlib.Core.Path.{◌≡◌, refl, sym, ap}
use mathlib.Core.List.{List}
use Prim.Native.Nat.{ℕ}
use native.Mathlib.Omega.{arith}
use Rattle.std.proofs.lemmas.Result.{err_from_is_err_and}
use Rattle.lists.specs.Lists.{chained}
use Rattle.sizes.specs.Sizes.{slots_per_record}
use Rattle.slots.specs.Slots.{rule_at}
use Rattle.slots.specs.declared.Sort.TheVariants.{Ordinary}
use Rattle.cases.specs.Cases.{value_at}
use Rattle.cases.specs.Conditions.{Condition, first, verdict_of}
use Rattle.cases.specs.CaseConditions.{slot_conditions, record_conditions}
use Rattle.cases.proofs.CaseConditionLaws.{verdict_under}
use Rattle.cases.proofs.FirstMet.{accepts_on, refuses}
use Rattle.cases.proofs.memory.record_verdict.Goals as goal

pub loop-k-init : goal.loop-k-init
unfolding chained first
loop-k-init c = refl

pub returns-in_err-slot_verdict : goal.returns-in_err-slot_verdict
unfolding record_conditions value_at
returns-in_err-slot_verdict c =
    let f : ℕ → List Condition = λ n. slot_conditions (rule_at Ordinary c.args.owner n) (value_at c.args.r.now n) in
    let turn = verdict_under _ _ _ _ c.slot_verdict.ensures c.rule_at.ensures in
    let p = err_from_is_err_and c.from_residual.result c.from_residual.ensures.1 in
    rw (p.1, p.2) (refuses f c.loop-k.k c.loop-k.invariant _ turn slots_per_record c.loop-k-test.true _ c.in_err-slot_verdict.was)

pub loop-k-preserved : goal.loop-k-preserved
unfolding value_at
loop-k-preserved c =
    let f : ℕ → List Condition = λ n. slot_conditions (rule_at Ordinary c.args.owner n) (value_at c.args.r.now n) in
    let turn = verdict_under _ _ _ _ c.slot_verdict.ensures c.rule_at.ensures in
    accepts_on f c.loop-k.k c.loop-k.invariant _ turn c.in_ok-slot_verdict.was

pub returns : goal.returns
unfolding record_conditions verdict_of
returns c =
    let all : c.loop-k.k ≡ slots_per_record = omega arith in
    sym (ap verdict_of (rw all at c.loop-k.invariant))
