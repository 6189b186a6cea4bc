-- `spelling::reading::exponent` meets its contract: its bytes are digits.
-- Assumes nothing.
use native.Mathlib.Omega.{arith}
use Rattle.spelling.proofs.WordLaws.{exponent_bytes, exponent_value_lem}
use Rattle.spelling.proofs.reading.exponent.Goals as goal

pub overflow_sub-tail : goal.overflow_sub-tail
overflow_sub-tail c = omega (arith, exponent_bytes _ c.requires.0 c.requires.1)

pub overflow_sub-tail-2 : goal.overflow_sub-tail-2
overflow_sub-tail-2 c = omega (arith, exponent_bytes _ c.requires.0 c.requires.1)

pub returns : goal.returns
returns c = omega (arith, c.from.ensures, c.from-2.ensures, exponent_value_lem c.args.tail.now c.requires.1)
