-- The conditions of a case in memory, with the receptors' ids. Assumes nothing.
use mathlib.Core.Path.{refl}
use Rattle.scenario.specs.Scenario.{scenario_conditions}
use Rattle.scenario.proofs.Scenario.verdict.Goals as goal

pub returns : goal.returns
unfolding scenario_conditions
returns c = rw (c.memory_verdict.ensures, c.ids.ensures) refl
