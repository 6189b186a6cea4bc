-- Each effect has its cap. Assumes nothing.
use mathlib.Core.Path.{refl}
use lib.Dec.{lit≤}
use lib.IntN.{pos}
use Rattle.pair.specs.Number.{one}
use Rattle.pair.proofs.Promises.{written_entry}
use Rattle.sheet.specs.Sheet.{cap_of}
use Rattle.sheet.proofs.counting.cap_of.Goals as goal

pub returns-in-Hazard : goal.returns-in-Hazard
unfolding cap_of
returns-in-Hazard c = rw (c.entry.ensures, c.in-Hazard.is) (written_entry 10000 (pos 0) (lit≤ tt) (lit≤ tt))

pub returns-in-Cancer : goal.returns-in-Cancer
unfolding cap_of one
returns-in-Cancer c = rw (c.answer.ensures, c.in-Cancer.is) refl
