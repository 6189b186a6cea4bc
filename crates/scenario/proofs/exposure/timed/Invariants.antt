use Rattle.times.specs.Times.{printed}
use Rattle.scenario.proofs.exposure.timed.Given as goal

abbrev pub ghost-told : goal.ghost-told
ghost-told a = printed
