-- `report::rows::row_of` meets its contract: the columns of each effect. Assumes nothing.
use mathlib.Core.Path.{refl}
use borrow.Author.Rules.{rules}
use Rattle.report.specs.Inner.{row_in}
use Rattle.report.proofs.rows.row_of.Goals as goal

pub returns : goal.returns
unfolding row_in
returns c = rw (c.columns.ensures, c.columns-2.ensures) refl
