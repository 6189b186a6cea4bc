-- The operations in the formula's order. Assumes nothing.
use mathlib.Core.Path.{refl}
use Rattle.equations.specs.Formula.{read, pairs}
use Rattle.equations.specs.Readings.{plain, plain_with, letters, inputs, by_owner, value_in}
use Rattle.slots.specs.Slots.{table, same, is_in, place_in, owner_of, place_of}
use Rattle.equations.specs.Page.{AT}
use Rattle.pathway.specs.Lines.{worked_for, worked_of}
use Rattle.pathway.proofs.air.averaging_time.Goals as goal

pub returns-in-Hazard : goal.returns-in-Hazard
unfolding worked_for plain plain_with read letters inputs by_owner value_in owner_of place_of table same is_in place_in pairs worked_of AT
returns-in-Hazard c = rw (c.times.ensures, c.at.ensures, c.entry.ensures, c.in-Hazard.is)
    refl

pub returns-in-Cancer : goal.returns-in-Cancer
unfolding worked_for plain plain_with read letters inputs by_owner value_in owner_of place_of table same is_in place_in pairs worked_of AT
returns-in-Cancer c = rw (c.at-in-Cancer.ensures, c.in-Cancer.is)
    refl
