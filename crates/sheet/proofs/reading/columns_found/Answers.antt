-- The three cells of a line. Assumes nothing.
use Rattle.sheet.specs.Counts.{columns_found}
use Rattle.sheet.proofs.reading.columns_found.Goals as goal

pub returns : goal.returns
unfolding columns_found
returns c = c.columns_from.ensures
