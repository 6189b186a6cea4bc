-- `zilmorga_entry` writes the pair of an entry, or refuses. Assumes nothing.
use mathlib.Core.Path.{refl}
use mir.Facts.{to_z-of_z}
use borrow.Author.Rules.{rules}
use Rattle.zilmorga.proofs.zilmorga_entry.Goals as goal

pub returns : goal.returns
returns c = rw (c.put.ensures, c.entry.ensures, to_z-of_z c.ranges.power) refl
