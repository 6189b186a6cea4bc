-- As it is entered. Assumes nothing.
use Rattle.pathway.proofs.exposure.per_million.Goals as goal

pub returns : goal.returns
returns c = c.entry.ensures
