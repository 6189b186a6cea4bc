-- The factor, times the pathway's medium. Assumes nothing.
use mathlib.Core.Path.{refl}
use borrow.Author.Rules.{rules}
use Rattle.pair.specs.Calls.{answer, after, mapped}
use Rattle.pathway.specs.Lines.{factor_with, dose_for}
use Rattle.pathway.proofs.doses.dose_from.Goals as goal

pub returns-in_err-over : goal.returns-in_err-over
unfolding answer after mapped dose_for factor_with
returns-in_err-over c = rw (← c.in_err-over.ensures) (search rules)

pub returns : goal.returns
unfolding answer after mapped dose_for factor_with
returns c = rw (← c.in_ok-over.ensures, c.dose_of.ensures, c.medium_of.ensures) refl
