-- Nine figures stand as they are; of ten the last is rounded off. Assumes nothing.
use mathlib.Core.Path.{refl}
use native.Mathlib.Omega.{arith}
use lib.Dec.{lit<}
use lib.IntN.{pos, ◌+ℤ◌}
use mir.Facts.{to_z-of_z}
use Rattle.pair.proofs.Alignment.{Small, raised}
use Rattle.pair.proofs.Numbers.{fits_plus}
use Rattle.pair.proofs.Rounds.{rounded_off, rounded_exact}
use Rattle.pair.proofs.rounding.ten.Goals as goal

pub returns-then-m-gt999999999 : goal.returns-then-m-gt999999999
returns-then-m-gt999999999 c =
    let a = c in
    rw (c.nine.ensures, to_z-of_z a.ranges.e, to_z-of_z (fits_plus a.args.e (pos 1) (omega arith)))
    (rounded_off a.args.up a.args.m 1 a.args.e (a.args.e +ℤ pos 1) (omega arith) (omega arith) refl)

pub returns : goal.returns
returns c =
    let a = c in
    let s : Small a.args.e = record { small = omega arith } in
    rw (to_z-of_z a.ranges.e)
    (rounded_exact a.args.up a.args.m a.args.m 9 a.args.e a.args.e refl a.requires.le_m.0 c.if-m-gt999999999.false (raised 9 9 s s (lit< tt) refl))
