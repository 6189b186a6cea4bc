-- By cases of the value. Assumes nothing.
use borrow.Author.Rules.{rules}
use mathlib.Core.Path.{refl}
use mir.Facts.{to_z-of_z}
use mir.Syntax.{w32}
use mir.Val.{SFits}
use Rattle.pair.specs.Calls.{answer}
use Rattle.scenario.specs.Scenario.{of_value}
use Rattle.scenario.proofs.values.of_value.Goals as goal

pub returns-in_default : goal.returns-in_default
unfolding of_value answer
returns-in_default g c = rw c.in_default.is refl

pub returns : goal.returns
unfolding of_value
returns g c =
    let f : SFits w32 c.in-Given.power = search rules in
    rw c.in-Given.is (c.requires.1.1.1 _ _ _ (rw (to_z-of_z f) at c.call.ensures))
