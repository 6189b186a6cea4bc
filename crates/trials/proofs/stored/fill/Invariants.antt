-- What was passed is filled. Assumes nothing.
use Rattle.std.proofs.Common.{◌≡◌, take}
use Rattle.trials.specs.Trials.{filled}
use Rattle.trials.proofs.stored.fill.Given as goal

abbrev pub invariant-loop-i : goal.invariant-loop-i
invariant-loop-i l = take l.i l.buffer ≡ filled l.i
