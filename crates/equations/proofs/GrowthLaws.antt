-- g and h at an exponent, whatever it is: each is answered, fits one profile and holds the exact one of every N from 256 up, by the series where
-- the exponent's high end is at most 64 and by `FastLaws` where it is above. Assumes nothing.
use mathlib.Core.Path.{◌≡◌, refl, sym, ◌∙◌, ap, subst}
use mathlib.Core.Bool.{Bool, true, false}
use Prim.Native.Nat.{ℕ, ◌*◌, ◌^◌, ◌≤◌, ◌<◌}
use native.Mathlib.Nat.{mul-le-mul_right, le_of_mul-le-mul_right, one-le-pow}
use native.Mathlib.Omega.{arith}
use lib.Dec.{lit<, lit≤}
use lib.IntN.{pos}
use Rattle.pair.specs.declared.Pair.{Pair}
use Rattle.pair.specs.Fraction.{Fraction, ◌≤ᶠ◌}
use Rattle.pair.specs.Number.{is_pair, at_most, value, depth}
use Rattle.pair.specs.Calls.{Outcome, is, refused, compared}
use Rattle.pair.specs.Promises.{sums, products, quotients, call, exact_result, Near, spread}
use Rattle.pair.proofs.Promises.{◌<ᶠ◌, joint, ordered, compared_right, compared_answered, written_entry}
use Rattle.pair.proofs.Profiles.{Profile, of_number, positives, usable, joined, Good, answered_as, good_op, good_more, good_number}
use Rattle.equations.specs.Formula.{pairs, fractions}
use Rattle.equations.specs.Series.{Series, phi, psi, first, step, terms, pair_series, exact_series}
use Rattle.equations.specs.Page.{Pace, Slow, Fast, g_with, growth}
use Rattle.equations.specs.Ranges.{sixty_four}
use Rattle.equations.specs.Readings.{pace_if, pace_of, pair_growing, exact_growing}
use Rattle.equations.proofs.Limits.{sixty_four_number, at_most_whole, at_least_whole}
use Rattle.equations.proofs.Profile.{profiles}
use Rattle.equations.proofs.SeriesTerms.{cost}
use Rattle.equations.proofs.SeriesLaws.{series_profile, series_good}
use Rattle.equations.proofs.FastLaws.{of_exponent, fast_g, fast_h}

-- The profiles of g and h: those of the series, which are wider than what is worked without it.
abbrev pub of_g : Profile
of_g = answered_as 521 3379 true

abbrev pub of_h : Profile
of_h = answered_as 1223 7052 true

-- ---- the pace
slow_or_fast : {B : Type 0} → Slow ≡ Fast → B
slow_or_fast e = absurd (let z : ◌≡◌ {A = ℕ} 0 1 = cc in omega arith)

fast_from : (p : Pair) → pace_of (is p) ≡ Fast → value sixty_four <ᶠ value p.high
unfolding pace_of
fast_from p = go (compared p.high sixty_four) refl
  where
    go : (o : Outcome Bool) → compared p.high sixty_four ≡ o → pace_if o ≡ Fast → value sixty_four <ᶠ value p.high
    go (is true) e h = unfold pace_if in slow_or_fast h
    go (is false) e h = (compared_right p.high sixty_four false e).1 refl
    go (refused n) e h = unfold pace_if in slow_or_fast h

slow_from : (p : Pair) → is_pair p ≡ true → pace_of (is p) ≡ Slow → value p.high ≤ᶠ value sixty_four
unfolding pace_of
slow_from p v = go (at_most p.high sixty_four) (compared_answered p.high sixty_four (ordered p v).high sixty_four_number)
  where
    go : (t : Bool) → compared p.high sixty_four ≡ is t → pace_if (compared p.high sixty_four) ≡ Slow → value p.high ≤ᶠ value sixty_four
    go true e h = (compared_right p.high sixty_four true e).0 refl
    go false e h = slow_or_fast (sym h ∙ ap pace_if e ∙ (unfold pace_if in refl))

-- The limit is 64.
at_most_64 : (p : Pair) → value p.high ≤ᶠ value sixty_four → value p.high ≤ᶠ record { num = 64; den = 1 }
unfolding sixty_four
at_most_64 p h = (at_most_whole 64 (record { low = sixty_four; high = sixty_four }) (lit≤ tt) (written_entry 64 (pos 0) (lit≤ tt) (lit≤ tt)) p.high).0 h

from_64 : record { num = 64; den = 1 } ≤ᶠ value sixty_four
unfolding sixty_four
from_64 = at_least_whole 64 (record { low = sixty_four; high = sixty_four }) (lit≤ tt) (written_entry 64 (pos 0) (lit≤ tt) (lit≤ tt))

-- Above 64 at the high end, and 40 parts wide, is at least 63 at the low end.
low_least : (p : Pair) → Near 40 (value p.high) (value p.low) → value sixty_four <ᶠ value p.high → 63 * (value p.low).den ≤ (value p.low).num
unfolding value
low_least p h l =
    least (value sixty_four).num (value p.high).num (value p.low).num (10 ^ depth) (100000000 ^ 40) (100000001 ^ 40)
    (one-le-pow depth 10 (lit< tt)) (lit< tt) (lit≤ tt) from_64.across l.across h.across
  where
    least : (s a b d e m : ℕ) → 0 < d → 0 < m → 63 * m ≤ 64 * e → 64 * d ≤ s * 1 → s * d < a * d → a * d * e ≤ b * d * m → 63 * d ≤ b
    least s a b d e m y z k i l h =
        let q : 64 * d ≤ a = le_of_mul-le-mul_right {k = d} (omega (arith, l, mul-le-mul_right d i)) y in
        let r : a * e ≤ b * m = le_of_mul-le-mul_right {k = d} (omega (arith, h)) y in
        le_of_mul-le-mul_right {k = m} (omega (arith, r, mul-le-mul_right d k, mul-le-mul_right e q)) z

-- ---- by the series
of_series : Series → Profile
of_series phi = answered_as 500 3373 true
of_series psi = answered_as 500 3633 true

series_computed : (s : Series) → series_profile s of_exponent ≡ of_series s
unfolding of_series series_profile cost terms first step profiles of_number joined joint spread positives usable
series_computed phi = refl
series_computed psi = refl

series_answered : (s : Series) → (of_series s).answered ≡ true
unfolding of_series
series_answered phi = refl
series_answered psi = refl

-- ---- both
pub record Grown (o : Outcome Pair) (v : Fraction) (N : ℕ) : Type 0 where
  pub g : Good of_g (growth pair_growing (pace_of o) o).g (growth (exact_growing N) (pace_of o) v).g
  pub h : Good of_h (growth pair_growing (pace_of o) o).h (growth (exact_growing N) (pace_of o) v).h

module _ {o : Outcome Pair} {v : Fraction} (x : Good of_exponent o v) (N : ℕ) (n : 256 ≤ N) where
  by_series : pace_of o ≡ Slow → (s : Series) → Good (of_series s) (pair_series s o) (exact_series s N v)
  by_series e s =
      subst (λ (P : Profile). Good P (pair_series s o) (exact_series s N v)) (series_computed s)
      (series_good s of_exponent x (at_most_64 x.answer (slow_from x.answer x.fits.pair (sym (ap pace_of x.told) ∙ e)))
      (ap (λ (P : Profile). P.answered) (series_computed s) ∙ series_answered s) N n)

  slow_grown : pace_of o ≡ Slow → Good of_g (growth pair_growing Slow o).g (growth (exact_growing N) Slow v).g × Good of_h (growth pair_growing Slow o).h (growth (exact_growing N) Slow v).h
  unfolding growth g_with pair_growing exact_growing pairs fractions of_series of_number joined joint spread positives usable call exact_result
  slow_grown e =
      let one = good_number 1 (pos 0) refl in
      let ONE : Profile = of_number 1 (pos 0) in
      let PHI : Profile = of_series phi in
      let φ = by_series e phi in (
        good_op quotients ONE (joined sums (joined quotients ONE PHI) of_exponent) one (good_op sums (joined quotients ONE PHI) of_exponent (good_op quotients ONE PHI one φ refl) x refl) refl,
        good_op quotients (of_series psi) (joined sums ONE (joined products of_exponent PHI)) (by_series e psi) (good_op sums ONE (joined products of_exponent PHI) one (good_op products of_exponent PHI x φ refl) refl) refl,
      )

  fast_grown : pace_of o ≡ Fast → Good of_g (growth pair_growing Fast o).g (growth (exact_growing N) Fast v).g × Good of_h (growth pair_growing Fast o).h (growth (exact_growing N) Fast v).h
  fast_grown e =
      let least = low_least x.answer x.fits.wide (fast_from x.answer (sym (ap pace_of x.told) ∙ e)) in
      rw x.told (
        good_more (answered_as 233 45 true) of_g (lit≤ tt) (lit≤ tt) (λ t. refl) (fast_g x.fits x.held least N n),
        good_more (answered_as 231 89 true) of_h (lit≤ tt) (lit≤ tt) (λ t. refl) (fast_h x.fits x.held least N n),
      )

  pub grown : Grown o v N
  grown = go (pace_of o) refl
    where
      go : (p : Pace) → pace_of o ≡ p → Grown o v N
      go Slow e = record { g = rw e (slow_grown e).0; h = rw e (slow_grown e).1 }
      go Fast e = record { g = rw e (fast_grown e).0; h = rw e (fast_grown e).1 }
