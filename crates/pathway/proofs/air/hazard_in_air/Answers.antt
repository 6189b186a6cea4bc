-- No reference value, no figure; a refusal on the way is carried along. Assumes nothing.
use mathlib.Core.Path.{refl}
use borrow.Author.Rules.{rules}
use Rattle.pair.specs.Calls.{answer}
use Rattle.pathway.specs.Lines.{rfc_value, air_figure_of}
use Rattle.pathway.proofs.Carried.{refused_in_air}
use Rattle.pathway.proofs.air.hazard_in_air.Goals as goal

pub returns-in_default : goal.returns-in_default
unfolding answer air_figure_of rfc_value
returns-in_default c = rw c.in_default.is refl

pub returns-in_err-exposed_of : goal.returns-in_err-exposed_of
unfolding answer rfc_value
returns-in_err-exposed_of c = rw (c.in-Some.is, ← c.in_err-exposed_of.ensures, refused_in_air) (search rules)

pub returns : goal.returns
unfolding answer rfc_value
returns c = rw (c.in-Some.is, ← c.in_ok-exposed_of.ensures) c.quotient_in_air.ensures
