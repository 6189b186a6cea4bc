-- `scenario::exposure::time_given` meets its contract. Assumes nothing.
use mathlib.Core.Path.{ap, ◌∙◌}
use Rattle.scenario.specs.Scenario.{or_no_time, time_given}
use Rattle.scenario.proofs.exposure.time_given.Goals as goal

pub returns : goal.returns
unfolding time_given
returns c = c.or_no_time.ensures ∙ ap or_no_time c.timed.ensures
