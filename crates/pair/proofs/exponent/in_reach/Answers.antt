-- The range's two tests are those of the definition. Assumes nothing.
use lib.IntN.{pos, negsuc}
use mir.Facts.{to_z-of_z}
use Rattle.pair.specs.Number.{in_reach}
use Rattle.pair.proofs.Exponents.{compared_le}
use Rattle.pair.proofs.exponent.in_reach.Goals as goal

pub returns : goal.returns
unfolding in_reach
returns c =
    rw (c.contains.ensures.value, c.new.ensures.start, c.new.ensures.end, c.new.ensures.exhausted, to_z-of_z c.ranges.e, compared_le (negsuc 99998) c.args.e, compared_le c.args.e (pos 99999))
