-- Each by its place. Assumes nothing.
use mathlib.Core.Path.{refl}
use Rattle.slots.specs.Slots.{table, same, is_in, place_in, owner_of, place_of}
use Rattle.pathway.specs.Lines.{absorbed_of}
use Rattle.pathway.proofs.exposure.absorbed_of.Goals as goal

pub returns : goal.returns
unfolding absorbed_of owner_of place_of table same is_in place_in
returns c = rw (c.value-3.ensures, c.value-2.ensures, c.value.ensures)
    refl
