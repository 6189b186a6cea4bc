-- `sheet::lines::put_chemical` meets its contract. The invariant: the cells hold the lines so far, none of which stops, and the cells of other
-- lines are as they were. Assumes nothing.
use mathlib.Core.Path.{◌≡◌}
use lib.ListN.{length}
use Rattle.sizes.specs.Sizes.{pathways_per_chemical}
use Rattle.cases.specs.Conditions.{passed}
use Rattle.cases.specs.Conditions.{first}
use Rattle.lists.specs.Lists.{chained}
use Rattle.sheet.specs.Inner.{source_columns, faulty_line, CellsHold, SameBut}
use Rattle.sheet.proofs.lines.Basis.put_chemical.Given as goal

abbrev pub invariant-loop-p : goal.invariant-loop-p
invariant-loop-p l =
    (length l.cells ≡ length l.initial.cells)
    × CellsHold (source_columns l.self.site l.place l.receptor l.source) l.p l.cells l.base
    × SameBut pathways_per_chemical l.base l.initial.cells l.cells
    × (first (chained (faulty_line l.self.capped l.self.site l.place l.receptor l.source l.before) l.p) ≡ passed)
