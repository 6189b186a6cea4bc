-- `composite::stages::no_receptor` meets its contract. Assumes nothing.
use borrow.Author.Rules.{rules}
use mathlib.Core.Path.{refl}
use Rattle.scenario.specs.Scenario.{no_receptor}
use Rattle.composite.proofs.stages.no_receptor.Goals as goal

pub returns : goal.returns
unfolding no_receptor
returns c = rw (c.no_values.ensures, c.no_pair.ensures) refl
