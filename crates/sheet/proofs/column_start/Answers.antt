-- The cells are tested, and the column found. Assumes nothing.
use borrow.Author.Tests.{eq-eqb, ne_eqb, le-ltb, lt-ltb}
use borrow.Author.Rules.{rules}
use Prim.Native.Nat.{◌<◌}
use Rattle.sheet.specs.Counts.{is_held}
use Rattle.sheet.proofs.TotalsTold.{side_small}
use Rattle.sheet.proofs.column_start.Goals as goal
use Rattle.sheet.proofs.column_start.Goals.{then-cells-ne-CELLS-via-then-cells-ne-CELLS, then-cells-ne-CELLS-via-else-cells-ne-CELLS+then-receptor-ge-MAX_RECEPTORS}

pub returns-then-cells-ne-CELLS : goal.returns-then-cells-ne-CELLS
unfolding is_held
returns-then-cells-ne-CELLS c =
    elim c.then-cells-ne-CELLS.branch [
      | then-cells-ne-CELLS-via-then-cells-ne-CELLS w ↦ simp (ne_eqb _ _ w.if-cells-ne-CELLS.true)
      | then-cells-ne-CELLS-via-else-cells-ne-CELLS+then-receptor-ge-MAX_RECEPTORS w ↦ simp (eq-eqb _ _ w.if-cells-ne-CELLS.false, le-ltb _ _ w.if-receptor-ge-MAX_RECEPTORS.true)
    ]

pub overflow_mul-result-2 : goal.overflow_mul-result-2
overflow_mul-result-2 c =
    let small : c.side_of.result < 2 = rw c.side_of.ensures (side_small _) in
    search rules

pub overflow_add-result : goal.overflow_add-result
overflow_add-result c =
    let small : c.side_of.result < 2 = rw c.side_of.ensures (side_small _) in
    search rules

pub returns : goal.returns
unfolding is_held
returns c = simp (eq-eqb _ _ c.if-cells-ne-CELLS.false, lt-ltb _ _ c.if-receptor-ge-MAX_RECEPTORS.false, c.side_of.ensures)
