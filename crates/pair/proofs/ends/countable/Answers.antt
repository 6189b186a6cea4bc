-- The difference of the exponents decides. Assumes nothing.
use Prim.Native.Nat.{◌<◌}
use native.Mathlib.Omega.{arith}
use lib.IntN.{◌-ℤ◌}
use lib.Signed.{mag}
use mir.Syntax.{w32}
use mir.Val.{SFits}
use mir.Facts.{to_z-of_z}
use Rattle.pair.proofs.Counts.{count_test}
use Rattle.pair.proofs.Numbers.{number_nine, number_back, number_mag, reach_mag, fits_minus}
use Rattle.pair.proofs.ends.countable.Goals as goal

pub returns : goal.returns
returns c up =
    let a = c in
    let m : mag a.args.u < 100000 = reach_mag a.args.u a.requires.u_value in
    let f : SFits w32 (a.args.w.exponent -ℤ a.args.u) = fits_minus a.args.w.exponent a.args.u (omega (arith, number_mag a.args.w a.requires.w_value)) in
    rw (number_back a.args.w a.requires.w_value, to_z-of_z a.ranges.u, to_z-of_z f)
    (count_test up a.args.w a.args.u (number_nine a.args.w a.requires.w_value (omega arith)) (record { small = omega (arith, m) }))
