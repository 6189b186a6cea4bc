-- The words, counted from 1E-27. Assumes nothing.
use Rattle.times.specs.Times.{as_pair, least}
use Rattle.times.proofs.Years.pair.Goals as goal

pub returns : goal.returns
unfolding as_pair least
returns c = c.long_entry.ensures
