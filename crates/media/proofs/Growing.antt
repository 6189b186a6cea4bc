-- g and h at an exponent by its pace; at a refused one both are refused. Assumes nothing.
use mathlib.Core.Path.{◌≡◌, refl}
use mathlib.Core.Bool.{Bool}
use lib.Dec.{lit≤}
use Rattle.pair.specs.declared.Pair.{Pair}
use Rattle.pair.specs.Calls.{Outcome, is, refused, after}
use Rattle.pair.proofs.Promises.{one_entry}
use Rattle.equations.specs.Formula.{pairs}
use Rattle.equations.specs.Series.{Series, phi, psi, step, terms}
use Rattle.equations.specs.Page.{g_with, growth}
use Rattle.equations.specs.Readings.{pace_of, pair_growing}
use Rattle.equations.proofs.EarlyStop.{series_refused}
use Rattle.equations.proofs.SeriesFigures.{first_is}
use Rattle.media.specs.Media.{growth_at}
use Rattle.media.specs.Inner.{paced}

-- what a test of x's pace told
pub growth_tested : {x : Outcome Pair} {r b : Bool} (e : Pair) → x ≡ is e → pace_of (is e) ≡ paced r → r ≡ b → growth_at x ≡ growth pair_growing (paced b) (is e)
unfolding growth_at
growth_tested {x} {r} {b} e told tested way = rw (told, tested, way) refl

-- The second term is refused, and with it the sum.
second_refused : (s : Series) → (terms pairs s (refused 53) 1).total ≡ refused 53
unfolding terms step pairs after
second_refused phi = rw (first_is phi).0 refl
second_refused psi = rw (first_is psi).0 refl

pub growth_refused : growth_at (refused 53) ≡ record { g = refused 53; h = refused 53 }
unfolding growth_at pace_of growth g_with pair_growing pairs after
growth_refused = rw (series_refused phi (refused 53) 1 (lit≤ tt) (second_refused phi), series_refused psi (refused 53) 1 (lit≤ tt) (second_refused psi), one_entry) refl
