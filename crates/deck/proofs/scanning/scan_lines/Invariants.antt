-- `deck::scanning::scan_lines` meets its contract. The invariant: what is carried is what the lines before say, and none of their conditions holds.
-- Assumes nothing.
use Rattle.deck.proofs.Kept.{Kept}
use Rattle.deck.proofs.Scan.{Scanned}
use Rattle.deck.proofs.scanning.scan_lines.Given as goal

abbrev pub invariant-loop-n : goal.invariant-loop-n
invariant-loop-n l = record { scanned : Scanned l.sort l.deck l.n l.seen; kept : Kept l.deck l.n l.values }
