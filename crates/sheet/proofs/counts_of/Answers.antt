-- `sheet::counts_of` meets its contract. Assumes nothing.
use mathlib.Core.Path.{ap, ◌∙◌}
use Rattle.cases.specs.Conditions.{verdict_of}
use Rattle.sheet.proofs.counts_of.Goals as goal

pub returns : goal.returns
returns c = record { value = c.verdict_of.ensures ∙ ap verdict_of c.counts_from.ensures.value; cells_after = c.counts_from.ensures.cells_after }
