-- `scenario::values::no_pair` meets its contract. Assumes nothing.
use mathlib.Core.Path.{refl}
use Rattle.pair.specs.Number.{zero, one}
use Rattle.scenario.specs.Scenario.{no_pair}
use Rattle.scenario.proofs.values.no_pair.Goals as goal

pub returns : goal.returns
unfolding no_pair zero one
returns c = refl
