-- The operations in the formula's order. Assumes nothing.
use mathlib.Core.Path.{refl}
use Rattle.pair.specs.Calls.{after}
use Rattle.slots.specs.Slots.{same}
use Rattle.equations.specs.Formula.{read, pairs}
use Rattle.equations.specs.Readings.{letters, plain_with, as_answers}
use Rattle.media.specs.Media.{held_in, soil_beyond}
use Rattle.media.proofs.compartments.soil_beyond.Goals as goal

pub returns : goal.returns
unfolding soil_beyond held_in plain_with as_answers read letters same pairs after
returns c = rw (c.over.ensures, c.answer.ensures, c.plus.ensures, c.answer-gathered.ensures, c.times-left.ensures, c.product-2.ensures, c.pair-highest.ensures, c.g_at-g.ensures, c.product.ensures) refl
