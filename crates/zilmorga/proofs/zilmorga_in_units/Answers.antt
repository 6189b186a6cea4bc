-- `zilmorga_in_units` writes the two counts, or refuses. Assumes nothing.
use mathlib.Core.Path.{refl}
use mir.Facts.{to_z-of_z}
use Rattle.pair.specs.Calls.{answer}
use Rattle.zilmorga.specs.Numbers.{and_then}
use Rattle.zilmorga.specs.Calls.{leaves, units_left}
use borrow.Author.Rules.{rules}
use Rattle.zilmorga.proofs.zilmorga_in_units.Goals as goal

pub returns-in_default : goal.returns-in_default
unfolding answer and_then leaves units_left
returns-in_default c = rw (← c.pair_from.ensures, c.in_default.is) refl

pub returns-in-Ok-in_units : goal.returns-in-Ok-in_units
unfolding answer and_then leaves units_left
returns-in-Ok-in_units c =
    let told = rw (to_z-of_z c.ranges.unit) at c.in_units.ensures in
    rw (← c.pair_from.ensures, c.in-Ok.is, ← told, c.in-Ok-in_units.is) refl

pub returns-in-Err : goal.returns-in-Err
unfolding answer and_then leaves units_left
returns-in-Err c =
    let told = rw (to_z-of_z c.ranges.unit) at c.in_units.ensures in
    rw (← c.pair_from.ensures, c.in-Ok.is, ← told, c.in-Err.is) refl
