-- What a loop over the terms of a series keeps, and where it ends. Assumes nothing.
use mathlib.Core.Path.{◌≡◌, refl, sym, ◌∙◌, ap, ap₂}
use mathlib.Core.Bool.{true}
use mathlib.Core.Logic.{inl}
use Prim.Native.Nat.{ℕ, suc, ◌+◌, ◌-◌, ◌≤◌, ◌<◌}
use native.Mathlib.Numerals.{add-one}
use native.Mathlib.Omega.{arith}
use lib.IntN.{pos}
use Rattle.pair.specs.declared.Pair.{Pair}
use Rattle.pair.specs.declared.Partial.{Partial}
use Rattle.pair.specs.Number.{value}
use Rattle.pair.specs.Fraction.{◌≤ᶠ◌}
use Rattle.pair.specs.Calls.{Outcome, is, refused, after, after_one, zero_pair, entry, sum, compared, absorbs, raised}
use Rattle.pair.specs.Promises.{scaled}
use Rattle.pair.proofs.Promises.{entry_answered, entry_exact, through, value_proper}
use Rattle.pair.proofs.Partials.{partial_worked, partial_refused}
use Rattle.equations.specs.Formula.{pairs}
use Rattle.equations.specs.Series.{first, Series, phi, psi, step, terms, from_zero, pair_series}
use Rattle.equations.proofs.EarlyStop.{reach, step_plain, series_stopped, series_refused}
use Rattle.equations.proofs.SeriesFigures.{first_is, series_at_zero}
use Rattle.media.specs.Inner.{Moderate, next_of}
use Rattle.media.proofs.Moderate.{high_above_lem, moderate_within, at_most_by}
use Rattle.media.proofs.Passing.{is_not_refused}

-- term n and the total up to it
pub record Sofar (s : Series) (x term total : Pair) (n : ℕ) : Type 0 where
  pub count : n ≤ 255
  pub term_is : (terms pairs s (is x) n).term ≡ is term
  pub total_is : (terms pairs s (is x) n).total ≡ is total

-- from its first term
module _ (s : Series) (x begun : Pair) (h : first pairs s ≡ is begun) where
  pub start : Sofar s x begun begun 0
  unfolding terms
  start = record { count = omega arith; term_is = h; total_is = h }

  -- at x = 0 the series is its first term
  pub at_none : x ≡ zero_pair → is begun ≡ pair_series s (is x)
  at_none z = sym h ∙ (first_is s).0 ∙ sym (ap (λ (q : Pair). pair_series s (is q)) z ∙ series_at_zero s)

-- n + 2 is always answered
pub entered : {A : Type 0} (n : ℕ) → n < 255 → refused 53 ≡ entry (n + 2) (pos 0) → A
entered n l h = let d = entry_answered (n + 2) (pos 0) (omega arith) (omega arith) in is_not_refused d.0 53 (h ∙ d.1)

-- One step more.
module _ (s : Series) (x term total : Pair) (n : ℕ) (f : Sofar s x term total n) (l : n < 255) where
  abbrev stepped : Outcome Pair
  stepped = step pairs s (is x) n (is term)

  next_term_lem : (terms pairs s (is x) (suc n)).term ≡ stepped
  unfolding terms
  next_term_lem = ap (step pairs s (is x) n) f.term_is

  next_total : (terms pairs s (is x) (suc n)).total ≡ after sum (is total) stepped
  unfolding terms pairs
  next_total = ap₂ (after sum) f.total_is next_term_lem

  -- where it is not worked, the series is refused
  pub step_refused : (k : ℕ) → refused k ≡ next_of s x n term total → refused 53 ≡ pair_series s (is x)
  unfolding next_of
  step_refused k e =
      let plain = step_plain s n (inl (x, refl)) (inl (term, refl)) in
      sym (series_refused s (is x) (suc n) l (next_total ∙ (partial_refused total stepped k (sym e)).1 plain))

  module _ (P : Partial) (e : is P ≡ next_of s x n term total) where
    told : (stepped ≡ is P.term) × (after sum (is total) stepped ≡ is P.total)
    unfolding next_of
    told = partial_worked stepped (after sum (is total) stepped) P (sym e)

    pub again : Sofar s x P.term P.total (n + 1)
    again = rw (add-one n) (record { count = l; term_is = next_term_lem ∙ told.0; total_is = next_total ∙ told.1 })

    -- where every later term is absorbed, the series is told
    pub stopped : (d : Pair) → entry (n + 2) (pos 0) ≡ is d → (absorbs P.total P.term ≡ true) × (compared x.high d.low ≡ is true) × Moderate x →
        raised (255 - n) P.total ≡ pair_series s (is x)
    stopped d h g =
        let most : value x.high ≤ᶠ value d.low = at_most_by x.high d.low g.1 in
        let whole : value x.high ≤ᶠ scaled (n + 2) (pos 0) = through (value_proper d.low) most (entry_exact (n + 2) (pos 0) d (omega arith) h).1.low in
        sym
        (series_stopped s x g.2.pair (moderate_within x (n + 2) (omega arith) g.2 whole) (suc n) (n + 2) P.total P.term d l (reaches s) (high_above_lem x g.2)
        (next_term_lem ∙ told.0) (next_total ∙ told.1) g.0 h most
        ∙ ap (λ (j : ℕ). raised j P.total) (omega arith))
      where
        reaches : (s : Series) → n + 2 ≤ reach s (suc n)
        reaches phi = unfold reach in omega arith
        reaches psi = unfold reach in omega arith

-- After 255 steps the last term is added once more.
pub done : (s : Series) (x term total : Pair) (n : ℕ) → Sofar s x term total n → 255 ≤ n → after sum (is total) (after_one from_zero (is term)) ≡ pair_series s (is x)
unfolding pair_series
done s x term total n f l =
    let e : n ≡ 255 = omega (arith, f.count) in
    sym
    (ap₂ (λ (o u : Outcome Pair). after sum o (after_one from_zero u))
    (ap (λ (j : ℕ). (terms pairs s (is x) j).total) (sym e) ∙ f.total_is) (ap (λ (j : ℕ). (terms pairs s (is x) j).term) (sym e) ∙ f.term_is))
