-- The entry itself. Assumes nothing.
use Rattle.equations.specs.Formula.{pairs}
use Rattle.equations.specs.Series.{first}
use Rattle.media.proofs.terms.PsiSeries.first.Goals as goal

pub returns : goal.returns
unfolding first pairs
returns c = c.entry.ensures
