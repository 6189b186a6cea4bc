-- Absent, or the pair of what is printed. Assumes nothing.
use mathlib.Core.Path.{refl}
use Rattle.cases.specs.Cases.{value_at}
use Rattle.sheet.specs.Inner.{printed_as}
use Rattle.sheet.proofs.references.printed.Goals as goal

pub returns-in_default : goal.returns-in_default
unfolding value_at printed_as
returns-in_default c = rw c.in_default.is refl

pub returns : goal.returns
unfolding value_at printed_as
returns c = rw (c.pair_of.ensures, c.in-Given.is) refl
