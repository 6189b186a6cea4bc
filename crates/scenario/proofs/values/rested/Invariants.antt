use Rattle.pair.specs.Calls.{one_minus_entry}
use Rattle.scenario.proofs.values.rested.Given as goal

abbrev pub ghost-told : goal.ghost-told
ghost-told a = one_minus_entry
