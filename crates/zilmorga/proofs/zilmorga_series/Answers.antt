-- `zilmorga_series` writes φ at x, or refuses. Assumes nothing.
use mathlib.Core.Path.{refl}
use Rattle.pair.specs.Calls.{answer, after_one}
use Rattle.zilmorga.specs.Calls.{leaves, on_one_pair}
use borrow.Author.Rules.{rules}
use Rattle.zilmorga.proofs.zilmorga_series.Goals as goal

pub returns-in_default : goal.returns-in_default
unfolding answer after_one leaves on_one_pair
returns-in_default c = rw (← c.pair_from.ensures, c.in_default.is) refl

pub returns : goal.returns
unfolding answer after_one on_one_pair
returns c = rw (c.put.ensures, c.series.ensures, ← c.pair_from.ensures, c.in-Ok.is) refl
