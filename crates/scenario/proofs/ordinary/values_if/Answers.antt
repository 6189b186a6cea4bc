-- `scenario::ordinary::values_if` meets its contract: either way. Assumes nothing.
use Rattle.scenario.specs.Scenario.{values_if}
use Rattle.scenario.proofs.ordinary.values_if.Goals as goal

pub returns-then-lacking : goal.returns-then-lacking
unfolding values_if
returns-then-lacking c = rw c.if-lacking.true c.no_values.ensures

pub returns : goal.returns
unfolding values_if
returns c = rw c.if-lacking.false c.values_of.ensures
