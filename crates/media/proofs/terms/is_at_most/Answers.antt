-- What the comparison tells. Assumes nothing.
use mathlib.Core.Path.{sym, ◌∙◌, ap}
use Rattle.pair.specs.Calls.{is, answer}
use Rattle.media.proofs.terms.is_at_most.Goals as goal

pub returns-in-Ok-true : goal.returns-in-Ok-true
unfolding answer
returns-in-Ok-true c h = sym c.in-Ok-true.ensures ∙ ap is c.in-Ok-true.field-0-test
