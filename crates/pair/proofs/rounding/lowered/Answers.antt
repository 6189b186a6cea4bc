-- Twelve figures or fewer, twelve places or more down, are a part of one. Assumes nothing.
use mathlib.Core.Path.{◌∙◌}
use Prim.Native.Nat.{◌^◌}
use native.Mathlib.Nat.{lt_of_lt_of_le}
use native.Mathlib.Omega.{arith}
use Rattle.pair.proofs.Dividing.{divided_part}
use Rattle.pair.proofs.Powers.{ten_rises}
use Rattle.pair.proofs.rounding.lowered.Goals as goal

pub returns-then-g-gt11 : goal.returns-then-g-gt11
returns-then-g-gt11 c =
    let a = c in
    c.whole.ensures
    ∙ divided_part a.args.up a.args.n (10 ^ a.args.g) a.requires.0 (lt_of_lt_of_le (omega arith) (ten_rises {i = 12} (omega arith)))
