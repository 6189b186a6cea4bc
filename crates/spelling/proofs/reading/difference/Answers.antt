-- `spelling::reading::difference` meets its contract: both numbers are small, so the difference fits.
-- Assumes nothing.
use Rattle.powers.proofs.Signed.{difference_fits, difference_is}
use Rattle.spelling.proofs.reading.difference.Goals as goal

pub overflow_sub-result : goal.overflow_sub-result
overflow_sub-result c = difference_fits _ _ c.requires.0 c.requires.1

pub returns : goal.returns
returns c = difference_is _ _ c.requires.0 c.requires.1
