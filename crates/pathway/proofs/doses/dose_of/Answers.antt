-- The product answers. Assumes nothing.
use mathlib.Core.Path.{refl}
use borrow.Author.Rules.{rules}
use Rattle.pair.specs.Calls.{answer, mapped}
use Rattle.pathway.proofs.doses.dose_of.Goals as goal

pub returns-in_err-product : goal.returns-in_err-product
unfolding answer mapped
returns-in_err-product c = rw (← c.in_err-product.ensures) (search rules)

pub returns : goal.returns
unfolding answer mapped
returns c = rw (← c.in_ok-product.ensures) refl
