-- A refusal is carried along, else the product answers. Assumes nothing.
use mathlib.Core.Path.{refl}
use borrow.Author.Rules.{rules}
use Rattle.pair.specs.Calls.{answer, after, mapped}
use Rattle.pathway.specs.Lines.{air_exposure_of}
use Rattle.pathway.proofs.air.exposed_of.Goals as goal

pub returns-in_err-share : goal.returns-in_err-share
unfolding answer after mapped air_exposure_of
returns-in_err-share c = rw c.in_err-share.was (search rules)

pub returns-in_err-product : goal.returns-in_err-product
unfolding answer after mapped air_exposure_of
returns-in_err-product c = rw (c.in_ok-share.was, ← c.pair.ensures, ← c.in_err-product.ensures) (search rules)

pub returns : goal.returns
unfolding answer after mapped air_exposure_of
returns c = rw (c.in_ok-share.was, ← c.pair.ensures, ← c.in_ok-product.ensures) refl
