-- The operations in the formula's order. Assumes nothing.
use mathlib.Core.Path.{refl}
use Rattle.equations.specs.Formula.{read, pairs}
use Rattle.equations.specs.Page.{exposure}
use Rattle.equations.specs.Readings.{letters, by_owner, value_in}
use Rattle.equations.specs.Ahead.{only, a_slot, is_receptors, read_from, plain_from}
use Rattle.slots.specs.Slots.{table, same, is_in, place_in, owner_of, place_of}
use Rattle.pathway.specs.Inner.{each}
use Rattle.pathway.specs.Lines.{share_at, taken_in, exposure_from}
use Rattle.pathway.proofs.exposure.Intake.soil_winter.Goals as goal

pub returns : goal.returns
unfolding exposure_from plain_from read_from is_receptors only a_slot read letters taken_in share_at each by_owner value_in owner_of place_of table same is_in place_in pairs exposure
returns c = rw (c.times-3.ensures, c.per_million.ensures, c.times-2.ensures, c.at-2.ensures, c.times.ensures, c.at.ensures, c.times_three-eaten.ensures, c.value-2.ensures, c.value.ensures)
    refl
