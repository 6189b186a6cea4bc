-- The ids so far are right. Assumes nothing.
use mathlib.Core.Path.{◌≡◌, refl, sym}
use native.Mathlib.Omega.{arith}
use Rattle.lists.specs.Lists.{any_of}
use Rattle.cases.specs.CaseConditions.{id_before, ids_wrong}
use Rattle.cases.proofs.CaseConditionLaws.{id_on, id_stops}
use Rattle.cases.proofs.memory.ids_wrong.Goals as goal

pub loop-i-init : goal.loop-i-init
unfolding id_before any_of
loop-i-init g c = λ ids same. (refl, refl)

pub returns-then-id_wrong : goal.returns-then-id_wrong
returns-then-id_wrong g c =
    λ ids same.
    let so_far = c.loop-i.invariant ids same in
    id_stops ids c.loop-i.i _ _ (same _ _ c.loop-i-test.true c.id_at-id.ensures) so_far.0 _ c.id_wrong.ensures c.if-id_wrong.true _ c.loop-i-test.true

pub loop-i-preserved : goal.loop-i-preserved
loop-i-preserved g c =
    λ ids same.
    let so_far = c.loop-i.invariant ids same in
    id_on ids c.loop-i.i _ _ (same _ _ c.loop-i-test.true c.id_at-id.ensures) so_far.0 _ c.id_wrong.ensures c.if-id_wrong.false so_far.1

pub returns : goal.returns
unfolding ids_wrong
returns g c =
    λ ids same.
    let all : c.loop-i.i ≡ c.args.count = omega arith in
    sym (rw all at (c.loop-i.invariant ids same).1)
