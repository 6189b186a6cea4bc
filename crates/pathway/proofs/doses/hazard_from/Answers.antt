-- No reference value, no figure; a refusal on the way is carried along. Assumes nothing.
use mathlib.Core.Path.{refl}
use borrow.Author.Rules.{rules}
use Rattle.pair.specs.Calls.{answer}
use Rattle.pathway.specs.Lines.{rfd_value, figure_of}
use Rattle.pathway.proofs.Carried.{refused_carried}
use Rattle.pathway.proofs.doses.hazard_from.Goals as goal

pub returns-in_default : goal.returns-in_default
unfolding answer figure_of rfd_value
returns-in_default c = rw c.in_default.is refl

pub returns-in_err-dose_from : goal.returns-in_err-dose_from
unfolding answer rfd_value
returns-in_err-dose_from c = rw (c.in-Some.is, ← c.in_err-dose_from.ensures, refused_carried) (search rules)

pub returns : goal.returns
unfolding answer rfd_value
returns c = rw (c.in-Some.is, ← c.in_ok-dose_from.ensures) c.quotient_of.ensures
