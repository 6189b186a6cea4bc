-- The value, passed on. Assumes nothing.
use mathlib.Core.Path.{◌∙◌, ap}
use Rattle.pair.specs.declared.Pair.{Pair}
use Rattle.pair.specs.Calls.{is}
use Rattle.equations.proofs.Values.at.Goals as goal

pub returns : goal.returns
returns c = c.answer.ensures ∙ ap (λ (p : Pair). is p) c.value.ensures
