-- The significands are multiplied and the exponents added. Assumes nothing.
use mathlib.Core.Path.{refl}
use native.Mathlib.Omega.{arith}
use mir.Facts.{to_z-of_z}
use Rattle.pair.specs.Rounding.{product_end}
use Rattle.pair.proofs.Numbers.{fits_plus, number_mag, number_back}
use Rattle.pair.proofs.ends.product.Goals as goal

pub returns : goal.returns
unfolding product_end
returns c =
    let a = c in
    rw (c.multiplied.ensures, number_back a.args.a a.requires.a_value, number_back a.args.b a.requires.b_value, to_z-of_z (fits_plus a.args.a.exponent a.args.b.exponent (omega (arith, number_mag a.args.a a.requires.a_value, number_mag a.args.b a.requires.b_value)))) refl
