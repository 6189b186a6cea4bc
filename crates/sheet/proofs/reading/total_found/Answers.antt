-- The totals call for each of three parts. Assumes nothing.
use borrow.Author.Rules.{rules}
use mathlib.Core.Path.{sym, ◌∙◌}
use Rattle.sheet.specs.Counts.{total_found}
use Rattle.sheet.proofs.TotalsTold.{by_parts, parts_told}
use Rattle.sheet.proofs.reading.total_found.Goals as goal

pub returns-in_err-lines : goal.returns-in_err-lines
unfolding total_found by_parts
returns-in_err-lines c = rw (parts_told, sym c.part_total.ensures ∙ c.in_err-lines.was) (search rules)

pub returns-in_err-low : goal.returns-in_err-low
unfolding total_found by_parts
returns-in_err-low c = rw (parts_told, sym c.part_total.ensures ∙ c.in_ok-lines.was, sym c.part_total-2.ensures ∙ c.in_err-low.was) (search rules)

pub returns-in_err-high : goal.returns-in_err-high
unfolding total_found by_parts
returns-in_err-high c =
    rw (parts_told, sym c.part_total.ensures ∙ c.in_ok-lines.was, sym c.part_total-2.ensures ∙ c.in_ok-low.was, sym c.part_total-3.ensures ∙ c.in_err-high.was) (search rules)

pub returns : goal.returns
unfolding total_found by_parts
returns c =
    rw (parts_told, sym c.part_total.ensures ∙ c.in_ok-lines.was, sym c.part_total-2.ensures ∙ c.in_ok-low.was, sym c.part_total-3.ensures ∙ c.in_ok-high.was) c.columns_from.ensures
