-- Formulas in which neither g nor h stands are read alike, whatever these are. Assumes nothing.
use mathlib.Core.Path.{◌≡◌, refl}
use Rattle.equations.specs.Formula.{Algebra, read}
use Rattle.equations.specs.Page.{Growth, x, x', u, kse, ksr, ksl, k}
use Rattle.equations.specs.Readings.{Inputs, AtBoth, letters, plain_with, plain}

pub x_plain : {A : Type 0} (alg : Algebra A) (env : Inputs A) (grown : AtBoth (Growth A)) → read alg (letters env grown) x ≡ plain alg env.value x
unfolding plain plain_with read letters x k u kse ksr ksl
x_plain alg env grown = refl

pub x'_plain : {A : Type 0} (alg : Algebra A) (env : Inputs A) (grown : AtBoth (Growth A)) → read alg (letters env grown) x' ≡ plain_with alg env.value env.later x'
unfolding plain_with read letters x' k u kse ksr ksl
x'_plain alg env grown = refl
