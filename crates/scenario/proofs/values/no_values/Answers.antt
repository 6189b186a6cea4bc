-- `scenario::values::no_values` meets its contract. Assumes nothing.
use mathlib.Core.Path.{refl}
use Rattle.scenario.specs.Scenario.{no_pairs}
use Rattle.scenario.proofs.values.no_values.Goals as goal

pub returns : goal.returns
unfolding no_pairs
returns c = rw c.no_pair-none.ensures refl
