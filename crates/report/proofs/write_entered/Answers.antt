-- `report::write_entered` meets its contract. Assumes nothing.
use mathlib.Core.Path.{sym, ◌∙◌}
use borrow.Author.Rules.{rules}
use Rattle.report.specs.Report.{rows_of}
use Rattle.sheet.specs.Counts.{miscounted}
use Rattle.sheet.proofs.CountLaws.{room_entered}
use Rattle.report.proofs.CallLaws.{miscount, counted}
use Rattle.report.proofs.write_entered.Goals as goal

pub returns-then-counts_outside : goal.returns-then-counts_outside
unfolding miscounted
returns-then-counts_outside c =
    let a = c.args in
    let r = miscount rows_of a.scenario.now a.out.now (sym c.counts_outside.ensures ∙ c.if-counts_outside.true) c.refused.result c.refused.ensures in
    record { value = r.0; out_after = r.1 }

pub write_from-requires : goal.write_from-requires
unfolding miscounted
write_from-requires c =
    let a = c.args in
    room_entered a.scenario.now (sym c.counts_outside.ensures ∙ c.if-counts_outside.false)

pub returns : goal.returns
unfolding miscounted
returns c =
    let a = c.args in
    let r = counted rows_of a.scenario.now a.out.now (sym c.counts_outside.ensures ∙ c.if-counts_outside.false) _ _ (c.write_from.ensures.value, c.write_from.ensures.out_after) in
    record { value = r.0; out_after = r.1 }
