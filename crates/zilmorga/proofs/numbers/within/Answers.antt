-- Two comparisons. Assumes nothing.
use mathlib.Core.Path.{refl}
use mir.Facts.{to_z-of_z}
use Rattle.zilmorga.specs.Numbers.{is_between}
use Rattle.zilmorga.proofs.numbers.within.Goals as goal

pub returns-then-least-n : goal.returns-then-least-n
unfolding is_between
returns-then-least-n c =
    let a = c in
    simp (to_z-of_z a.ranges.n, to_z-of_z a.ranges.most, simp (to_z-of_z a.ranges.n, to_z-of_z a.ranges.least) at c.if-least-n.true)

pub returns : goal.returns
unfolding is_between
returns c =
    let a = c in
    rw (simp (to_z-of_z a.ranges.n, to_z-of_z a.ranges.least) at c.if-least-n.false) refl
