-- The significands are divided and the exponents subtracted. Assumes nothing.
use mathlib.Core.Path.{refl}
use native.Mathlib.Omega.{arith}
use mir.Facts.{to_z-of_z}
use Rattle.pair.specs.Rounding.{quotient_end}
use Rattle.pair.proofs.Numbers.{number_mag, fits_minus, number_back}
use Rattle.pair.proofs.ends.quotient.Goals as goal

pub returns : goal.returns
unfolding quotient_end
returns c =
    let a = c in
    rw (c.shared.ensures, number_back a.args.a a.requires.a_value, number_back a.args.b a.requires.b_value, to_z-of_z (fits_minus a.args.a.exponent a.args.b.exponent (omega (arith, number_mag a.args.a a.requires.a_value, number_mag a.args.b a.requires.b_value)))) refl
