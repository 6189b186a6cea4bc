-- For the contracts of this crate's inner functions only: a step's tests, each by itself.
use Rattle.std.specs.Prelude.{Bool, true, ◌&&◌, not}
use Rattle.pair.specs.declared.Number.{Number}
use Rattle.pair.specs.declared.Pair.{Pair}
use Rattle.pair.specs.declared.Step.{Step}
use Rattle.pair.specs.declared.Step.TheVariants.{Times, Over}
use Rattle.pair.specs.Number.{in_reach, is_zero, is_pair}

unfoldable pub divides : Step → Pair → Bool
divides Times q = true
divides Over q = not (is_zero q.low)

unfoldable pub is_operand : Step → Pair → Bool
is_operand step q = is_pair q && divides step q

unfoldable pub both_in_reach : Number → Number → Bool
both_in_reach low high = in_reach low.exponent && in_reach high.exponent
