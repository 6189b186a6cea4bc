-- 0 stays 0, and either length is divided by its own power of ten. Assumes nothing.
use mathlib.Core.Path.{refl}
use native.Mathlib.Nat.{pos_of_ne-zero}
use native.Mathlib.Omega.{arith}
use lib.IntN.{pos, ◌+ℤ◌}
use mir.Facts.{to_z-of_z}
use Rattle.pair.proofs.Numbers.{fits_plus}
use Rattle.pair.proofs.Rounds.{rounded_off}
use Rattle.pair.proofs.ends.multiplied.Goals as goal

pub returns-then-p-lt100000000000000000 : goal.returns-then-p-lt100000000000000000
returns-then-p-lt100000000000000000 c =
    let a = c in
    rw (c.nine.ensures, to_z-of_z a.ranges.e, to_z-of_z (fits_plus a.args.e (pos 8) (omega arith)))
    (rounded_off a.args.up a.args.p 8 a.args.e (a.args.e +ℤ pos 8) (a.requires.le_p (pos_of_ne-zero c.if-p-eq0.false)) c.if-p-lt100000000000000000.true refl)

pub returns : goal.returns
returns c =
    let a = c in
    rw (c.nine-2.ensures, to_z-of_z a.ranges.e, to_z-of_z (fits_plus a.args.e (pos 9) (omega arith)))
    (rounded_off a.args.up a.args.p 9 a.args.e (a.args.e +ℤ pos 9) c.if-p-lt100000000000000000.false a.requires.p_bound refl)
