-- The upper words decide, or the lower ones. Assumes nothing.
use mathlib.Core.Path.{◌≡◌, ◌∙◌}
use Prim.Native.Nat.{ℕ, ◌+◌, ◌*◌, ◌≤◌}
use native.Mathlib.Omega.{arith}
use lib.Dec.{leb}
use Rattle.std.proofs.Common.{Some}
use Rattle.std.specs.Ordering.{nat_cmp, is_le, is_some_and, partial_ordering_then}
use Rattle.std.proofs.lemmas.Bool.Decides.{nat_tests}
use Rattle.times.specs.Times.{amount}
use Rattle.times.proofs.TwoWords.{bounded}
use Rattle.times.proofs.at_most.Goals as goal

by_words : (x p y q : ℕ) → p ≤ 999999999999999999 → q ≤ 999999999999999999 →
    is_some_and is_le (partial_ordering_then (Some (nat_cmp x y)) (Some (nat_cmp p q))) ≡ leb (x * 1000000000000000000 + p) (y * 1000000000000000000 + q)
by_words x p y q h k = grind (arith, nat_tests)

pub returns : goal.returns
unfolding amount
returns c =
    let a = c.args.a in
    let b = c.args.b in
    c.le.ensures ∙ by_words a.high a.low b.high b.low (bounded a c.requires.0).low (bounded b c.requires.1).low
