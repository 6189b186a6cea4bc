-- Produce by its formulas. Assumes nothing.
use mathlib.Core.Path.{refl}
use Rattle.slots.specs.Slots.{table, same, is_in, place_in, owner_of, place_of}
use Rattle.equations.specs.Formula.{read, pairs}
use Rattle.equations.specs.Readings.{plain, plain_with, letters, inputs, by_owner, value_in}
use Rattle.equations.specs.Page.{above_ground, below_ground}
use Rattle.media.specs.Media.{grown_in}
use Rattle.media.proofs.compartments.grown.Goals as goal

pub returns : goal.returns
unfolding grown_in above_ground below_ground plain plain_with read letters inputs by_owner value_in owner_of place_of table same is_in place_in pairs
returns c = rw (c.all.ensures, c.over-roots.ensures, c.at-4.ensures, c.times-2.ensures, c.at-3.ensures, c.times.ensures, c.at-2.ensures, c.times-leaves.ensures, c.at.ensures)
    refl
