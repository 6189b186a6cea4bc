-- 1 is the pair of its entry. Assumes nothing.
use mathlib.Core.Path.{sym, ◌∙◌}
use Rattle.pair.specs.Number.{one}
use Rattle.pair.specs.Calls.{one_pair}
use Rattle.pair.proofs.Promises.{one_entry}
use Rattle.equations.specs.Formula.{pairs}
use Rattle.equations.specs.Series.{first}
use Rattle.media.proofs.terms.PhiSeries.first.Goals as goal

pub returns : goal.returns
unfolding first pairs one_pair one
returns c = c.answer.ensures ∙ sym one_entry
