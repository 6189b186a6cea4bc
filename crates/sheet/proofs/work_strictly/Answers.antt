-- `sheet::work_strictly` meets its contract: what is not 42 is first of all; after a 42 the lines are asked for 53 alone. Assumes nothing.
use mathlib.Core.Path.{sym, ap, ◌∙◌}
use Rattle.std.proofs.lemmas.Result.{err_from_is_err_and}
use Rattle.cases.specs.Conditions.{Status}
use Rattle.sheet.specs.Counts.{cells_for}
use Rattle.sheet.proofs.CountLaws.{strict_passed, strict_stopped, cells_cleared, strict_broken, strict_capped}
use Rattle.sheet.proofs.work_strictly.Goals as goal

pub returns-in_default : goal.returns-in_default
returns-in_default c =
    let a = c.args in
    let r = strict_passed a.scenario.now _ _ (c.work-status.ensures.value, c.work-status.ensures.cells_after) c.in_default.is in
    record { value = r.0; cells_after = r.1 }

pub returns-then-stop-ne-TOO_LARGE : goal.returns-then-stop-ne-TOO_LARGE
returns-then-stop-ne-TOO_LARGE c =
    let a = c.args in
    let told = strict_stopped a.scenario.now _ _ (c.work-status.ensures.value, c.work-status.ensures.cells_after) _ c.in-Err.is c.if-stop-ne-TOO_LARGE.true in
    record { value = sym c.in-Err.is ∙ told.0; cells_after = told.1 ∙ ap (λ (t : Status). cells_for t a.scenario.now) c.in-Err.is }

pub work-refused-requires : goal.work-refused-requires
work-refused-requires c =
    let s = c in
    let a = s.args in
    (s.requires.0, s.requires.1, cells_cleared a.scenario.now _ _ (c.work-status.ensures.value, c.work-status.ensures.cells_after) _ c.in-Err.is)

pub returns-in_err-refused : goal.returns-in_err-refused
returns-in_err-refused c =
    let a = c.args in
    let was = c.in_err-refused.was in
    let r = strict_broken a.scenario.now _ _ (c.work-status.ensures.value, c.work-status.ensures.cells_after) _ c.in-Err.is c.if-stop-ne-TOO_LARGE.false _ c.work-refused.ensures.value _ c.clear.ensures _ was in
    let p = err_from_is_err_and c.from_residual.result c.from_residual.ensures.1 in
    record { value = rw (p.1, p.2) (sym was ∙ r.0); cells_after = rw (p.1, p.2) (r.1 ∙ ap (λ (t : Status). cells_for t a.scenario.now) was) }

pub returns : goal.returns
returns c =
    let a = c.args in
    let r = strict_capped a.scenario.now _ _ (c.work-status.ensures.value, c.work-status.ensures.cells_after) _ c.in-Err.is c.if-stop-ne-TOO_LARGE.false _ c.work-refused.ensures.value _ c.clear.ensures c.in_ok-refused.was _ (sym c.in-Err.is) in
    record { value = r.0; cells_after = r.1 }
