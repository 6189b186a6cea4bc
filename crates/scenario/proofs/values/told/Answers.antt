-- As it is given, or without zeros at its end. Assumes nothing.
use mathlib.Core.Path.{sym, ap, ◌∙◌}
use Rattle.pair.specs.Calls.{answer}
use Rattle.scenario.proofs.ValueLaws.{told_given, told_plain}
use Rattle.scenario.proofs.values.told.Goals as goal

pub returns-in_default : goal.returns-in_default
unfolding answer
returns-in_default g c = told_plain g.f _ _ c.of_value.ensures 53 (ap answer c.in_default.is) _ c.plain.ensures _ c.of_value-in_default.ensures

pub returns : goal.returns
unfolding answer
returns g c = ap answer (sym c.in-Ok.is) ∙ told_given g.f _ _ c.of_value.ensures _ (ap answer c.in-Ok.is)
