-- `report::write_from` meets its contract. Assumes nothing.
use mathlib.Core.Path.{sym, ap, ◌∙◌}
use borrow.Author.Rules.{rules}
use lib.ListN.{length}
use Rattle.cases.specs.Conditions.{told_of}
use Rattle.report.specs.Inner.{report_in}
use Rattle.report.specs.Report.{rows_of}
use Rattle.sheet.proofs.SheetCaseLaws.{lines_figured}
use Rattle.sheet.proofs.Held.{cells_many}
use Rattle.report.proofs.ReportLaws.{length_is, rows_held, past_rows}
use Rattle.report.proofs.CallLaws.{too_short_lem, sheet_stops, written, written_clear}
use Rattle.report.proofs.write_from.Goals as goal

pub length_of-length-requires : goal.length_of-length-requires
length_of-length-requires c = c.requires

pub returns-then-out-length : goal.returns-then-out-length
returns-then-out-length c =
    let a = c.args in
    let r = too_short_lem a.tested rows_of a.scenario.now a.out.now (rw (length_is a.scenario.now _ c.length_of-length.ensures) at c.if-out-length.true) c.refused.result c.refused.ensures in
    record { value = r.0; out_after = r.1 }

pub returns-in-Err : goal.returns-in-Err
returns-in-Err c =
    let a = c.args in
    let room = rw (length_is a.scenario.now _ c.length_of-length.ensures) at c.if-out-length.false in
    let r = sheet_stops a.tested rows_of a.scenario.now a.out.now room _ c.counts_from-worked.ensures.value _ _ c.in-Err.is (c.tell.ensures ∙ ap told_of (sym c.in-Err.is)) in
    record { value = r.0; out_after = r.1 }

pub slice_bounds-write_rows-end : goal.slice_bounds-write_rows-end
slice_bounds-write_rows-end c =
    let a = c.args in
    sym (ap length c.counts_from-worked.ensures.cells_after ∙ cells_many a.tested a.scenario.now)

pub write_rows-requires : goal.write_rows-requires
write_rows-requires c = record { count_le_max_chemicals = c.requires; count_in_bounds = rw c.length_of-length.ensures at c.if-out-length.false }

pub returns : goal.returns
returns c =
    let s = c in
    let a = s.args in
    let scenario = a.scenario.now in
    let long = length_is scenario _ c.length_of-length.ensures in
    let room = rw long at c.if-out-length.false in
    let worked = c.counts_from-worked in
    let r = written a.tested rows_of scenario a.out.now room _ worked.ensures.value c.in_default.is _ worked.ensures.cells_after
    (λ cells. report_in cells a.scenario.now.chemicals a.scenario.now.receptors.list a.scenario.now.receptors.count)
    (λ e. let none = written_clear a.tested rows_of scenario (length a.out.now) e in sym (rows_held scenario (lines_figured scenario s.requires.0 s.requires.1 none.0) none.1)) _ _ long (past_rows scenario _ _ a.out.now c.write_rows.ensures) in
    record { value = r.0; out_after = r.1 }
