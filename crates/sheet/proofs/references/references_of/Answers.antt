-- Each reference value is its slot. Assumes nothing.
use mathlib.Core.Path.{refl}
use Rattle.slots.specs.Slots.{table, same, is_in, place_in, owner_of, place_of}
use Rattle.sheet.specs.Inner.{references_of}
use Rattle.sheet.proofs.references.references_of.Goals as goal

pub returns : goal.returns
unfolding references_of place_of owner_of place_in is_in same table
returns c = rw (c.references_from.ensures, c.printed.ensures, c.printed-2.ensures, c.printed-3.ensures, c.printed-4.ensures) refl
