-- The highest year's soil, and produce in it. Assumes nothing.
use mathlib.Core.Path.{refl}
use Rattle.pair.specs.Calls.{one_pair}
use Rattle.slots.specs.Slots.{table, same, is_in, place_in, owner_of, place_of}
use Rattle.equations.specs.Formula.{pairs}
use Rattle.equations.specs.Page.{C}
use Rattle.equations.specs.Readings.{inputs, by_owner, value_in, no_values}
use Rattle.media.specs.Media.{media_inputs, of_slots, of_media, media_of}
use Rattle.media.proofs.Soils.{highest_is, produce_is}
use Rattle.media.proofs.compartments.concentrations.Goals as goal

pub returns : goal.returns
unfolding of_media of_slots media_of media_inputs inputs by_owner value_in owner_of place_of table same is_in place_in pairs
returns c =
    let a = c.args in
    rw (c.grown.ensures, c.times.ensures, c.air-breathed.ensures, c.times-laid.ensures, c.at.ensures, c.deposition.ensures, c.g_at-g.ensures, c.exponent.ensures, produce_is a.site a.chemical no_values (λ i. a.particles) one_pair C, highest_is (media_inputs a.site a.chemical a.particles)) refl
