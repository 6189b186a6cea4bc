-- `zilmorga_report` tells what the report call answers, and leaves the buffer as that call does. Assumes nothing.
use mathlib.Core.Path.{◌∙◌}
use borrow.Author.Rules.{rules}
use Rattle.zilmorga.proofs.zilmorga_report.Goals as goal

pub returns : goal.returns
returns c =
    let called = c.report-told in
    record { field_after = c.put_told.ensures ∙ called.ensures.value; report_after = called.ensures.out_after }
