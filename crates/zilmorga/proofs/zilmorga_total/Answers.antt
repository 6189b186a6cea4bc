-- `zilmorga_total` writes the sum, or returns 52. Assumes nothing.
use mathlib.Core.Path.{refl}
use borrow.Author.Rules.{rules}
use Rattle.totals.specs.Totals.{totalled}
use Rattle.zilmorga.specs.Calls.{leaves}
use Rattle.zilmorga.proofs.zilmorga_total.Goals as goal

pub returns-in-Ok : goal.returns-in-Ok
unfolding leaves totalled
returns-in-Ok c = rw (← c.total.ensures, c.in-Ok.is) refl

pub returns-in-Err : goal.returns-in-Err
unfolding leaves totalled
returns-in-Err c = rw (← c.total.ensures, c.in-Err.is) refl
