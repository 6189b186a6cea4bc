-- `deck::lines::printable` meets its contract. The invariant: all of the bytes passed print, or not.
-- Assumes nothing.
use mathlib.Core.Path.{◌≡◌}
use lib.Dec.{leb}
use Rattle.spelling.specs.Columns.{leading}
use Rattle.deck.proofs.lines.printable.Given as goal

abbrev pub invariant-loop-i : goal.invariant-loop-i
invariant-loop-i l = l.all ≡ leb l.i (leading 32 126 l.line)
