-- `zilmorga_product` writes the product of two pairs, or refuses. Assumes nothing.
use mathlib.Core.Path.{refl}
use Rattle.zilmorga.specs.Calls.{on_two_pairs}
use borrow.Author.Rules.{rules}
use Rattle.zilmorga.proofs.zilmorga_product.Goals as goal

pub returns : goal.returns
unfolding on_two_pairs
returns c = rw (c.put.ensures, c.times.ensures, c.pair_from-y.ensures, c.pair_from-x.ensures) refl
