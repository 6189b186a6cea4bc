-- The share that each exposure takes. Assumes nothing.
use mathlib.Core.Path.{refl}
use Rattle.slots.specs.Slots.{table, same, is_in, place_in, owner_of, place_of}
use Rattle.equations.specs.Formula.{read}
use Rattle.equations.specs.Page.{exposure}
use Rattle.equations.specs.Readings.{letters, by_owner}
use Rattle.equations.specs.Ahead.{only, a_slot, is_receptors, read_from, plain_from}
use Rattle.pathway.specs.Inner.{each}
use Rattle.pathway.specs.Lines.{share_at, taken_in, exposure_from}
use Rattle.pathway.proofs.exposure.share_of.Goals as goal

pub returns-in-Air : goal.returns-in-Air
unfolding exposure_from plain_from read_from is_receptors only a_slot read letters taken_in share_at each by_owner owner_of place_of table same is_in place_in exposure
returns-in-Air c begun s r = rw c.in-Air.is refl

pub returns-in-SoilSummer : goal.returns-in-SoilSummer
unfolding exposure_from plain_from read_from is_receptors only a_slot read letters taken_in share_at each by_owner owner_of place_of table same is_in place_in exposure
returns-in-SoilSummer c begun s r = rw c.in-SoilSummer.is refl

pub returns-in-SoilWinter : goal.returns-in-SoilWinter
unfolding exposure_from plain_from read_from is_receptors only a_slot read letters taken_in share_at each by_owner owner_of place_of table same is_in place_in exposure
returns-in-SoilWinter c begun s r = rw c.in-SoilWinter.is refl

pub returns-in-Skin : goal.returns-in-Skin
unfolding exposure_from plain_from read_from is_receptors only a_slot read letters taken_in share_at each by_owner owner_of place_of table same is_in place_in exposure
returns-in-Skin c begun s r = rw c.in-Skin.is refl

pub returns-in-AboveGround : goal.returns-in-AboveGround
unfolding exposure_from plain_from read_from is_receptors only a_slot read letters taken_in share_at each by_owner owner_of place_of table same is_in place_in exposure
returns-in-AboveGround c begun s r = rw c.in-AboveGround.is refl

pub returns-in-BelowGround : goal.returns-in-BelowGround
unfolding exposure_from plain_from read_from is_receptors only a_slot read letters taken_in share_at each by_owner owner_of place_of table same is_in place_in exposure
returns-in-BelowGround c begun s r = rw c.in-BelowGround.is refl
