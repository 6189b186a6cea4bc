-- `spelling::number` meets its contract: the word, and what document 01 calls it.
-- Assumes nothing.
use mathlib.Core.Path.{ap}
use Rattle.spelling.specs.Spelling.{held}
use Rattle.spelling.proofs.number.Goals as goal

pub returns : goal.returns
returns c = record { value = c.word.ensures; result_value = ap held c.word.ensures }
