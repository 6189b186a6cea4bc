-- Rounding down leaves nine figures, rounding up nine or a carry. Assumes nothing.
use mathlib.Core.Path.{refl, sym, subst}
use Prim.Native.Nat.{ℕ, ◌<◌}
use mir.Facts.{to_z-of_z}
use borrow.Author.Tests.{lt-ltb}
use Rattle.pair.specs.Rounding.{carried}
use Rattle.pair.proofs.Dividing.{down_below}
use Rattle.pair.proofs.rounding.nine.Goals as goal

pub returns : goal.returns
unfolding carried
returns c =
    let a = c in
    let l : c.whole-m.result < 1000000000 = subst (λ (x : ℕ). x < 1000000000) (sym c.whole-m.ensures) (down_below a.args.n a.args.d 1000000000 a.args.up c.if-up.false a.requires.d_bound.1) in
    rw (← c.whole-m.ensures, lt-ltb c.whole-m.result 1000000000 l, to_z-of_z a.ranges.e) refl
