-- The time, or what is no time. Assumes nothing.
use Rattle.std.proofs.Common.{rules}
use Rattle.pair.specs.Calls.{answer}
use Rattle.scenario.specs.Scenario.{no_time, or_no_time}
use Rattle.scenario.proofs.exposure.or_no_time.Goals as goal

pub returns : goal.returns
unfolding or_no_time no_time answer
returns c = search rules
