-- Which of the two is greater decides how many zeros the dividend gets. Assumes nothing.
use native.Mathlib.Omega.{arith}
use lib.IntN.{pos}
use mir.Facts.{to_z-of_z}
use Rattle.pair.proofs.Numbers.{fits_minus}
use Rattle.pair.proofs.Shares.{quotient_below, quotient_above}
use Rattle.pair.proofs.ends.shared.Goals as goal

pub returns-then-m-n : goal.returns-then-m-n
returns-then-m-n c =
    let a = c in
    rw (c.nine.ensures, to_z-of_z a.ranges.e, to_z-of_z (fits_minus a.args.e (pos 9) (omega arith)))
    (quotient_below a.args.up a.args.m a.args.n a.args.e a.requires.le_m.0 a.requires.le_n.1 (omega arith) c.if-m-n.true)

pub returns : goal.returns
returns c =
    let a = c in
    rw (c.nine-2.ensures, to_z-of_z a.ranges.e, to_z-of_z (fits_minus a.args.e (pos 8) (omega arith)))
    (quotient_above a.args.up a.args.m a.args.n a.args.e a.requires.le_m.1 a.requires.le_n.0 c.if-m-n.false)
