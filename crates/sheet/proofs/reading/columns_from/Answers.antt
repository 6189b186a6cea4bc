-- Whether a line has counts. Assumes nothing.
use borrow.Author.Tests.{eq-eqb, ne_eqb}
use Rattle.sheet.specs.Counts.{columns_from}
use Rattle.sheet.proofs.reading.columns_from.Goals as goal

pub returns-then-lines-eq0 : goal.returns-then-lines-eq0
unfolding columns_from
returns-then-lines-eq0 c = simp (eq-eqb _ _ c.if-lines-eq0.true)

pub returns : goal.returns
unfolding columns_from
returns c = simp (ne_eqb _ _ c.if-lines-eq0.false)
