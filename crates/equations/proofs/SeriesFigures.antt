-- Document 01's checked figure x = 0: φ and g are 1; and P4's: ψ and h are 1/2. Assumes nothing.
use mathlib.Core.Path.{◌≡◌, ◌∙◌, ap, ap₂}
use mathlib.Core.Bool.{true}
use Prim.Native.Nat.{ℕ, zero, suc, ◌+◌, ◌≤◌}
use native.Mathlib.Omega.{arith}
use lib.Dec.{lit≤}
use lib.IntN.{pos, negsuc}
use Rattle.pair.specs.declared.Pair.{Pair}
use Rattle.pair.specs.Number as numbers
use Rattle.pair.specs.Number.{is_number, is_pair, value}
use Rattle.pair.specs.Calls.{Outcome, is, after, after_one, zero_pair, one_pair, entry, written, sum, product, quotient}
use Rattle.pair.proofs.Promises.{ordered, at_most_lem, compared_answered, zero_pair_lem, one_pair_lem, one_entry, entry_answered, entry_around, entry_above, around_pair, scaled_proper, sum_zero, product_zero, zero_product, zero_quotient, quotient_one, written_entry}
use Rattle.equations.specs.Formula.{read, pairs}
use Rattle.equations.specs.Series.{Series, phi, psi, first, step, terms, from_zero, pair_series}
use Rattle.equations.specs.Letters.{g, h}
use Rattle.equations.specs.Page.{x, Pace, Slow, Growth, g_with, growth}
use Rattle.equations.specs.Ranges.{sixty_four}
use Rattle.equations.specs.Readings.{Inputs, letters, plain, exponents, growth_at_both, as_answers, pace_if, pace_of, paces_of, pair_growing, worked}
use Rattle.equations.proofs.Limits.{sixty_four_number}
use Rattle.equations.proofs.SeriesLaws.{zero_below}

-- a whole number, by which may be divided
record Whole (m : ℕ) : Type 0 where
  pair : Pair
  told : entry m (pos 0) ≡ is pair
  is_pair_lem : is_pair pair ≡ true

whole : (m : ℕ) → m ≤ 2000 → Whole m
whole m h =
    let d = entry_answered m (pos 0) (omega arith) (lit≤ tt) in
    record { pair = d.0; told = d.1; is_pair_lem = around_pair (entry_around m (pos 0) d.0 d.1) (scaled_proper m (pos 0)) }

zero_over : (m : ℕ) → 1 ≤ m → m ≤ 2000 → after quotient (is zero_pair) (entry m (pos 0)) ≡ is zero_pair
unfolding after
zero_over m l h =
    let d : Whole m = whole m h in
    rw d.told (zero_quotient d.pair d.is_pair_lem (entry_above m (pos 0) d.pair d.told l))

zero_times : (m : ℕ) → m ≤ 2000 → after product (is zero_pair) (entry m (pos 0)) ≡ is zero_pair
unfolding after
zero_times m h = let d : Whole m = whole m h in rw d.told (zero_product d.pair d.is_pair_lem)

times_zero : (p : Pair) → is_pair p ≡ true → after product (is p) (is zero_pair) ≡ is zero_pair
unfolding after
times_zero p v = product_zero p v

-- At x = 0 a term after a pair is 0.
next_term_lem : (s : Series) (n : ℕ) (p : Pair) → n ≤ 1000 → is_pair p ≡ true → (terms pairs s (is zero_pair) n).term ≡ is p → (terms pairs s (is zero_pair) (suc n)).term ≡ is zero_pair
next_term_lem phi n p h v t =
    unfold terms step pairs in
    ap (λ (o : Outcome Pair). after quotient o (entry (n + 2) (pos 0))) (ap (λ (o : Outcome Pair). after product o (is zero_pair)) t ∙ times_zero p v)
    ∙ zero_over (n + 2) (omega arith) (omega arith)
next_term_lem psi n p h v t =
    unfold terms step pairs in
    ap (λ (o : Outcome Pair). after quotient (after quotient (after product o (entry (n + 2) (pos 0))) (entry (n + 1) (pos 0))) (entry (n + 3) (pos 0))) (ap (λ (o : Outcome Pair). after product o (is zero_pair)) t ∙ times_zero p v)
    ∙ ap (λ (o : Outcome Pair). after quotient (after quotient o (entry (n + 1) (pos 0))) (entry (n + 3) (pos 0))) (zero_times (n + 2) (omega arith))
    ∙ ap (λ (o : Outcome Pair). after quotient o (entry (n + 3) (pos 0))) (zero_over (n + 1) (omega arith) (omega arith))
    ∙ zero_over (n + 3) (omega arith) (omega arith)

-- the first term, 1 or 1/2
unfoldable pub first_pair : Series → Pair
first_pair phi = one_pair
first_pair psi = record { low = written 5 (negsuc 0); high = written 5 (negsuc 0) }

pub first_is : (s : Series) → (first pairs s ≡ is (first_pair s)) × (is_pair (first_pair s) ≡ true)
unfolding first pairs first_pair
first_is phi = (one_entry, one_pair_lem.0)
first_is psi =
    let e : entry 5 (negsuc 0) ≡ is (first_pair psi) = unfold first_pair in written_entry 5 (negsuc 0) (lit≤ tt) (lit≤ tt) in
    (e, around_pair (entry_around 5 (negsuc 0) (first_pair psi) e) (scaled_proper 5 (negsuc 0)))

-- So every term from the second on is 0, and the sum stays the first.
term_at_zero : (s : Series) (n : ℕ) → n ≤ 1000 → (terms pairs s (is zero_pair) (suc n)).term ≡ is zero_pair
term_at_zero s zero h = next_term_lem s 0 (first_pair s) h (first_is s).1 (unfold terms in (first_is s).0)
term_at_zero s (suc n) h = next_term_lem s (suc n) zero_pair h zero_pair_lem.0 (term_at_zero s n (omega arith))

total_at_zero : (s : Series) (n : ℕ) → n ≤ 1000 → (terms pairs s (is zero_pair) n).total ≡ is (first_pair s)
unfolding terms pairs
total_at_zero s zero h = (first_is s).0
total_at_zero s (suc n) h = next (total_at_zero s n (omega arith)) (term_at_zero s n (omega arith))
  where
    next : (terms pairs s (is zero_pair) n).total ≡ is (first_pair s) → (terms pairs s (is zero_pair) (suc n)).term ≡ is zero_pair → (terms pairs s (is zero_pair) (suc n)).total ≡ is (first_pair s)
    next a b = ap₂ (after sum) a b ∙ (unfold after in sum_zero (first_pair s) (first_is s).1)

-- φ at x = 0 is 1, and ψ is 1/2.
pub series_at_zero : (s : Series) → pair_series s (is zero_pair) ≡ is (first_pair s)
unfolding pair_series from_zero after after_one zero_pair
series_at_zero s = rw (total_at_zero s 255 (lit≤ tt), term_at_zero s 254 (lit≤ tt)) (sum_zero (first_pair s) (first_is s).1)

one_over : after quotient (entry 1 (pos 0)) (after sum (after quotient (entry 1 (pos 0)) (is one_pair)) (is zero_pair)) ≡ is one_pair
unfolding after
one_over = rw (one_entry, quotient_one one_pair one_pair_lem.0, sum_zero one_pair one_pair_lem.0) (quotient_one one_pair one_pair_lem.0)

half_over : after quotient (is (first_pair psi)) (after sum (entry 1 (pos 0)) (after product (is zero_pair) (is one_pair))) ≡ is (first_pair psi)
unfolding after
half_over = rw (one_entry, zero_product one_pair one_pair_lem.0, sum_zero one_pair one_pair_lem.0) (quotient_one (first_pair psi) (first_is psi).1)

-- g at x = 0 is 1, and h is 1/2.
slow_at_zero : pace_of (is zero_pair) ≡ Slow
unfolding pace_of pace_if zero_pair
slow_at_zero =
    let zero_number : is_number numbers.zero ≡ true = (ordered zero_pair zero_pair_lem.0).high in
    ap pace_if (compared_answered numbers.zero sixty_four zero_number sixty_four_number ∙ ap is ((at_most_lem numbers.zero sixty_four zero_number sixty_four_number).1 (zero_below (value sixty_four))))

growth_at_zero : growth pair_growing Slow (is zero_pair) ≡ record { g = is one_pair; h = is (first_pair psi) }
unfolding growth g_with pair_growing pairs first_pair
growth_at_zero = rw (series_at_zero phi, series_at_zero psi) (ap₂ (λ (a b : Outcome Pair). record { g = a; h = b }) one_over half_over)

module _ (env : Inputs Pair) (zero_x : plain pairs (as_answers env).value x ≡ is zero_pair) where
  grown_is : growth pair_growing (paces_of env).at_x (plain pairs (as_answers env).value x) ≡ record { g = is one_pair; h = is (first_pair psi) }
  unfolding paces_of exponents
  grown_is =
      ap (λ (o : Outcome Pair). growth pair_growing (pace_of o) o) zero_x
      ∙ ap (λ (p : Pace). growth pair_growing p (is zero_pair)) slow_at_zero ∙ growth_at_zero

  pub g_at_zero : worked env g ≡ is one_pair
  unfolding worked read letters growth_at_both exponents
  g_at_zero = ap (λ (v : Growth (Outcome Pair)). v.g) grown_is

  pub h_at_zero : worked env h ≡ is (first_pair psi)
  unfolding worked read letters growth_at_both exponents
  h_at_zero = ap (λ (v : Growth (Outcome Pair)). v.h) grown_is
