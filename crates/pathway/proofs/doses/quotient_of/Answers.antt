-- What the quotient answers. Assumes nothing.
use mathlib.Core.Path.{refl}
use borrow.Author.Rules.{rules}
use Rattle.slots.specs.Slots.{same}
use Rattle.equations.specs.Formula.{read, pairs}
use Rattle.equations.specs.Readings.{letters, plain_with, plain}
use Rattle.equations.specs.Ahead.{of_two}
use Rattle.equations.specs.Page.{figure_by}
use Rattle.pair.specs.Calls.{answer, after, mapped}
use Rattle.pathway.specs.Lines.{figure_of}
use Rattle.pathway.proofs.doses.quotient_of.Goals as goal

pub returns-in_err-quotient : goal.returns-in_err-quotient
unfolding answer after mapped figure_by of_two plain plain_with read letters pairs same figure_of
returns-in_err-quotient c = rw (← c.in_err-quotient.ensures) (search rules)

pub returns : goal.returns
unfolding answer after mapped figure_by of_two plain plain_with read letters pairs same figure_of
returns c = rw (← c.in_ok-quotient.ensures) refl
