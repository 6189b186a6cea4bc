-- `sheet::lines::put_lines` meets its contract. The invariant: the cells hold the lines of the chemicals so far, none of which stops, the cells
-- below are as they were, and the others stay 0. Assumes nothing.
use mathlib.Core.Path.{◌≡◌}
use Prim.Native.Nat.{◌+◌, ◌*◌}
use lib.ListN.{length}
use Rattle.sizes.specs.Sizes.{pathways_per_chemical}
use Rattle.cases.specs.Conditions.{passed}
use Rattle.cases.specs.Conditions.{first}
use Rattle.lists.specs.Lists.{chained}
use Rattle.sheet.specs.Counts.{receptor_cells}
use Rattle.sheet.specs.Inner.{source_at, columns_worked, faulty_chemical, CellsHold, CellsEmpty, SameBelow, ZeroFrom}
use Rattle.sheet.proofs.lines.Basis.put_lines.Given as goal

abbrev pub invariant-loop-i : goal.invariant-loop-i
invariant-loop-i l =
    (length l.cells ≡ length l.initial.cells)
    × CellsHold (columns_worked l.self.site l.self.sources.now l.place l.receptor) (l.i * pathways_per_chemical) l.cells l.base
    × SameBelow l.base l.initial.cells l.cells
    × (first (chained (λ k. faulty_chemical l.self.capped l.self.site l.place l.receptor (source_at l.self.sources.now k) (l.before + k * pathways_per_chemical)) l.i) ≡ passed)
    × (ZeroFrom l.base l.initial.cells → CellsEmpty (l.i * pathways_per_chemical) l.cells l.base × ZeroFrom (l.base + receptor_cells) l.cells)
