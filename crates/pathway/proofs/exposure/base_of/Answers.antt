-- The operations in the formula's order. Assumes nothing.
use mathlib.Core.Path.{refl}
use Rattle.equations.specs.Formula.{read, pairs}
use Rattle.equations.specs.Readings.{plain, plain_with, letters, inputs, by_owner, value_in}
use Rattle.slots.specs.Slots.{table, same, is_in, place_in, owner_of, place_of}
use Rattle.equations.specs.Page.{B}
use Rattle.pathway.specs.Lines.{worked_for, worked_of}
use Rattle.pathway.proofs.exposure.base_of.Goals as goal

pub returns : goal.returns
unfolding worked_for plain plain_with read letters inputs by_owner value_in owner_of place_of table same is_in place_in pairs worked_of B
returns c = rw (c.times.ensures, c.averaging_time.ensures, c.at.ensures)
    refl
