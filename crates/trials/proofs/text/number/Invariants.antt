-- The number so far, with the digits that are left, is the whole's. Assumes nothing.
use Rattle.std.proofs.Common.{◌≡◌, ◌^◌, ◌<◌, drop}
use Rattle.trials.specs.Text.{spelled}
use Rattle.trials.proofs.text.number.Given as goal

abbrev pub invariant-loop-byte : goal.invariant-loop-byte
invariant-loop-byte l = (l.value < 2 ^ 64) × (spelled l.s 0 ≡ spelled (drop l.byte-index l.s) l.value)
