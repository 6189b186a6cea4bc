-- `report::rows::total_row` meets its contract: a total for each effect. Assumes nothing.
use mathlib.Core.Path.{refl}
use borrow.Author.Rules.{rules}
use Rattle.report.specs.Inner.{total_row_in}
use Rattle.report.proofs.rows.total_row.Goals as goal

pub returns : goal.returns
unfolding total_row_in
returns c = rw (c.total.ensures, c.total-2.ensures) refl
