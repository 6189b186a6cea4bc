use Rattle.pair.specs.Calls.{entry}
use Rattle.scenario.proofs.values.entered.Given as goal

abbrev pub ghost-told : goal.ghost-told
ghost-told a = entry
