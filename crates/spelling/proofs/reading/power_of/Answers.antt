-- `spelling::reading::power_of` meets its contract: the exponent has two digits, so the difference is one of small numbers.
-- Assumes nothing.
use Rattle.spelling.proofs.WordLaws.{exponent_four}
use Rattle.spelling.proofs.reading.power_of.Goals as goal

pub exponent-exponent-requires : goal.exponent-exponent-requires
exponent-exponent-requires c = (c.requires.0, exponent_four _ c.requires.0 c.if-tail-eq0.false)
