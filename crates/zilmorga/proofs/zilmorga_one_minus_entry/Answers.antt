-- `zilmorga_one_minus_entry` writes 1 less a printed number, or refuses. Assumes nothing.
use mathlib.Core.Path.{refl}
use mir.Facts.{to_z-of_z}
use borrow.Author.Rules.{rules}
use Rattle.zilmorga.proofs.zilmorga_one_minus_entry.Goals as goal

pub returns : goal.returns
returns c = rw (c.put.ensures, c.one_minus_entry.ensures, to_z-of_z c.ranges.power) refl
