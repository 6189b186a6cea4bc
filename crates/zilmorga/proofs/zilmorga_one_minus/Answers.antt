-- `zilmorga_one_minus` writes 1 − f, or refuses. Assumes nothing.
use mathlib.Core.Path.{refl}
use Rattle.zilmorga.specs.Calls.{on_one_pair}
use borrow.Author.Rules.{rules}
use Rattle.zilmorga.proofs.zilmorga_one_minus.Goals as goal

pub returns : goal.returns
unfolding on_one_pair
returns c = rw (c.put.ensures, c.one_minus.ensures, c.pair_from.ensures) refl
