use Rattle.scenario.proofs.values.told.Given as goal

abbrev pub ghost-of_value : goal.ghost-of_value
ghost-of_value g a = g.f
