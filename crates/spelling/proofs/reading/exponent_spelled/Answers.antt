-- `spelling::reading::exponent_spelled` meets its contract: the last two of four bytes are digits.
-- Assumes nothing.
use native.Mathlib.Omega.{arith}
use Rattle.spelling.specs.Columns.{within}
use Rattle.spelling.specs.Spelling.{sign_spelled}
use Rattle.spelling.proofs.WordLaws.{exponent_read}
use Rattle.spelling.proofs.reading.exponent_spelled.Goals as goal

pub returns-then-is_ascii_digit : goal.returns-then-is_ascii_digit
unfolding within sign_spelled
returns-then-is_ascii_digit c = grind (arith, exponent_read)

pub returns-else-is_ascii_digit : goal.returns-else-is_ascii_digit
unfolding within sign_spelled
returns-else-is_ascii_digit c = grind (arith, exponent_read)
