-- `report::write_report` meets its contract. Assumes nothing.
use mathlib.Core.Path.{refl}
use borrow.Author.Rules.{rules}
use Rattle.report.specs.Report.{rows_of}
use Rattle.sheet.proofs.CountLaws.{verdict_stops, verdict_passes, room_in_memory}
use Rattle.report.proofs.CallLaws.{memory_stops, memory_passes}
use Rattle.report.proofs.write_report.Goals as goal

pub returns-in-Err : goal.returns-in-Err
returns-in-Err c =
    let a = c.args in
    let r = memory_stops rows_of a.scenario.now a.out.now _ (verdict_stops a.scenario.now _ c.verdict.ensures _ c.in-Err.is) c.refused.result c.refused.ensures in
    record { value = r.0; out_after = r.1 }

pub write_from-requires : goal.write_from-requires
write_from-requires c =
    let a = c.args in
    room_in_memory a.scenario.now _ (verdict_passes a.scenario.now _ c.verdict.ensures c.in_default.is) refl

pub returns : goal.returns
returns c =
    let a = c.args in
    let r = memory_passes rows_of a.scenario.now a.out.now (verdict_passes a.scenario.now _ c.verdict.ensures c.in_default.is) _ _ (c.write_from.ensures.value, c.write_from.ensures.out_after) in
    record { value = r.0; out_after = r.1 }
