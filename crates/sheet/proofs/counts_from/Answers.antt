-- `sheet::counts_from` meets its contract. Of tested values: 21, then 33, then as it is worked. Of others: 21, 22, 32 and 33, then 53, 42.
-- Assumes nothing.
use mathlib.Core.Path.{refl, sym, ◌∙◌}
use mathlib.Core.Bool.{true, false}
use Rattle.std.proofs.lemmas.Result.{err_from_is_err_and}
use Rattle.scenario.specs.Scenario.{no_guidance}
use Rattle.sheet.specs.Counts.{miscounted, conditions_by}
use Rattle.sheet.proofs.CountLaws.{verdict_stops, verdict_passes, memory_stops, room_in_memory, unpaired_stops, counted_strictly, miscount, room_entered, other_year, counted_entered, by_test}
use Rattle.sheet.proofs.counts_from.Goals as goal

pub returns-then-counts_outside : goal.returns-then-counts_outside
unfolding miscounted conditions_by
returns-then-counts_outside c =
    let s = c in
    let r = by_test s.args.scenario.now _ true c.if-tested.true _ _
    (miscount s.args.scenario.now (sym c.counts_outside.ensures ∙ c.if-counts_outside.true) _ c.clear.ensures) in
    record { value = rw c.at.ensures r.0; cells_after = r.1 }

pub returns-then-has_no_guidance : goal.returns-then-has_no_guidance
unfolding miscounted no_guidance conditions_by
returns-then-has_no_guidance c =
    let s = c in
    let r = by_test s.args.scenario.now _ true c.if-tested.true _ _
    (other_year s.args.scenario.now (sym c.counts_outside.ensures ∙ c.if-counts_outside.false) (sym c.has_no_guidance.ensures ∙ c.if-has_no_guidance.true) _ c.clear.ensures) in
    record { value = rw c.at-then-has_no_guidance.ensures r.0; cells_after = r.1 }

pub work-requires : goal.work-requires
unfolding miscounted
work-requires c =
    let s = c in
    let few = room_entered s.args.scenario.now (sym c.counts_outside.ensures ∙ c.if-counts_outside.false) in
    (few.0, few.1, c.clear.ensures)

pub returns-then-tested : goal.returns-then-tested
unfolding miscounted no_guidance conditions_by
returns-then-tested c =
    let s = c in
    let r = by_test s.args.scenario.now _ true c.if-tested.true _ _
    (counted_entered s.args.scenario.now (sym c.counts_outside.ensures ∙ c.if-counts_outside.false) (sym c.has_no_guidance.ensures ∙ c.if-has_no_guidance.false) _ _ (c.work.ensures.value, c.work.ensures.cells_after)) in
    record { value = r.0; cells_after = r.1 }

pub returns-in_err-verdict : goal.returns-in_err-verdict
unfolding conditions_by
returns-in_err-verdict c =
    let s = c in
    let r = by_test s.args.scenario.now _ false c.if-tested.false _ _
    (memory_stops s.args.scenario.now _ (verdict_stops s.args.scenario.now _ c.verdict.ensures _ c.in_err-verdict.was) _ refl _ c.clear.ensures) in
    let p = err_from_is_err_and c.from_residual.result c.from_residual.ensures.1 in
    record { value = rw (p.1, p.2) r.0; cells_after = r.1 }

pub returns-then-is_unpaired : goal.returns-then-is_unpaired
unfolding conditions_by
returns-then-is_unpaired c =
    let s = c in
    let r = by_test s.args.scenario.now _ false c.if-tested.false _ _
    (unpaired_stops s.args.scenario.now _ (verdict_passes s.args.scenario.now _ c.verdict.ensures c.in_ok-verdict.was) refl (sym c.is_unpaired.ensures ∙ c.if-is_unpaired.true) _ c.clear.ensures) in
    record { value = rw c.at-then-is_unpaired.ensures r.0; cells_after = r.1 }

pub work_strictly-requires : goal.work_strictly-requires
work_strictly-requires c =
    let s = c in
    let few = room_in_memory s.args.scenario.now _ (verdict_passes s.args.scenario.now _ c.verdict.ensures c.in_ok-verdict.was) refl in
    (few.0, few.1, c.clear.ensures)

pub returns : goal.returns
unfolding conditions_by
returns c =
    let s = c in
    let r = by_test s.args.scenario.now _ false c.if-tested.false _ _
    (counted_strictly s.args.scenario.now _ (verdict_passes s.args.scenario.now _ c.verdict.ensures c.in_ok-verdict.was) refl (sym c.is_unpaired.ensures ∙ c.if-is_unpaired.false) _ _ (c.work_strictly.ensures.value, c.work_strictly.ensures.cells_after)) in
    record { value = r.0; cells_after = r.1 }
