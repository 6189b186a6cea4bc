-- `sheet::lines::put_all` meets its contract. The invariant: no line so far stops, and where all cells were 0, they hold
-- the lines of the receptors so far and 0 for the others. Assumes nothing.
use mathlib.Core.Path.{◌≡◌}
use Prim.Native.Nat.{◌*◌}
use lib.ListN.{length}
use Rattle.sheet.specs.Counts.{receptor_cells}
use Rattle.cases.specs.Conditions.{passed}
use Rattle.cases.specs.Conditions.{first}
use Rattle.sheet.specs.Inner.{all_faulty, CellsFilled, ZeroFrom}
use Rattle.sheet.proofs.lines.Basis.put_all.Given as goal

abbrev pub invariant-loop-j : goal.invariant-loop-j
invariant-loop-j l =
    (length l.cells ≡ length l.initial.cells)
    × (first (all_faulty l.self.capped l.self.site l.self.sources.now l.self.receptors.now.list l.j) ≡ passed)
    × (ZeroFrom 0 l.initial.cells → CellsFilled l.self.site l.self.sources.now l.self.receptors.now.list l.j l.cells × ZeroFrom (receptor_cells * l.j) l.cells)
