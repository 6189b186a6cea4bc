-- The two soils, produce in each, and what was gathered. Assumes nothing.
use mathlib.Core.Path.{refl}
use Rattle.pair.specs.Calls.{one_pair}
use Rattle.slots.specs.Slots.{table, same, is_in, place_in, owner_of, place_of}
use Rattle.equations.specs.declared.Stay.TheVariants.{Within}
use Rattle.equations.specs.Formula.{read, pairs}
use Rattle.equations.specs.Page.{x, C, mean}
use Rattle.equations.specs.Readings.{letters, plain, plain_with, inputs, by_owner, value_in, no_values}
use Rattle.media.specs.Media.{media_inputs, of_slots, of_media, ground_of}
use Rattle.media.proofs.Soils.{loss_is, highest_is, within_is, gathered_is, produce_is}
use Rattle.media.proofs.compartments.ground_of.Goals as goal

pub returns : goal.returns
unfolding ground_of of_media of_slots media_inputs inputs by_owner value_in owner_of place_of table same is_in place_in pairs plain plain_with read letters x
returns c =
    let a = c.args in
    let v = media_inputs a.site a.chemical a.particles in
    rw (c.ground_from.ensures, c.times-5.ensures, c.times-4.ensures, c.at-3.ensures, c.grown-within.ensures, c.times-3.ensures, c.grown-highest.ensures, c.times-2.ensures, c.air-breathed.ensures, c.times-laid.ensures, c.at-2.ensures, c.deposition.ensures, c.growth_at-growth.ensures.0, c.growth_at-growth.ensures.1, c.times.ensures, c.at.ensures, c.loss_rate-loss.ensures, loss_is v, produce_is a.site a.chemical no_values (λ i. a.particles) one_pair C, produce_is a.site a.chemical no_values (λ i. a.particles) one_pair (mean Within), highest_is v, within_is v, gathered_is v) refl
