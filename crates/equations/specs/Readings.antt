-- The two readings of the page: on pairs by the working rule, and on exact fractions with N terms of each series. In each, g and h are those at x,
-- which is read from the slots alone, and g' is g at x', which is read from the slots and T2 − tD. Whether the loss is fast at x or x' is the
-- pairs' choice, in both readings.
use Rattle.std.specs.Prelude.{Bool, true, false, ℕ, pos, get_or, []}
use Rattle.pair.specs.declared.Pair.{Pair}
use Rattle.pair.specs.Fraction as exact
use Rattle.pair.specs.Fraction.{Fraction}
use Rattle.pair.specs.Calls.{Outcome, is, refused, after_one, one_minus, compared, one_pair}
use Rattle.slots.specs.Slots.{Slot, owner_of, place_of}
use Rattle.slots.specs.declared.Owner.{Owner}
use Rattle.slots.specs.declared.Owner.TheVariants.{Site, Chemical, Receptor}
use Rattle.equations.specs.declared.Values.{Values}
use Rattle.equations.specs.Formula.{Letter, slot, rest, later, g_at_x, h_at_x, g_at_x', Formula, Algebra, read, pairs, fractions}
use Rattle.equations.specs.Series.{phi, pair_series, exact_series}
use Rattle.equations.specs.Page.{x, x', Pace, Slow, Fast, Growth, Growing, growth}
use Rattle.equations.specs.Ranges.{sixty_four, next_to_nothing}

-- What a formula is read from: each slot's value, 1 less it, and T2 − tD.
pub record Inputs (A : Type 0) : Type 0 where
  pub value : Slot → A
  pub rest : Slot → A
  pub later : A

-- what there is at x and at x'
pub record AtBoth (A : Type 0) : Type 0 where
  pub at_x : A
  pub at_x' : A

-- the letters, from the slots and from g and h
unfoldable pub letters : {A : Type 0} → Inputs A → AtBoth (Growth A) → Letter → A
letters env grown (slot s) = env.value s
letters env grown (rest s) = env.rest s
letters env grown later = env.later
letters env grown g_at_x = grown.at_x.g
letters env grown h_at_x = grown.at_x.h
letters env grown g_at_x' = grown.at_x'.g

-- a formula with neither g, h nor 1 −: from the slots and T2 − tD, and from the slots alone
unfoldable pub no_growth : {A : Type 0} → Algebra A → AtBoth (Growth A)
no_growth {A} alg =
    let one : A = alg.number 1 (pos 0) in
    record { at_x = record { g = one; h = one }; at_x' = record { g = one; h = one } }

unfoldable pub plain_with : {A : Type 0} → Algebra A → (Slot → A) → A → Formula → A
plain_with alg env beyond f = read alg (letters (record { value = env; rest = λ s. alg.number 1 (pos 0); later = beyond }) (no_growth alg)) f

unfoldable pub plain : {A : Type 0} → Algebra A → (Slot → A) → Formula → A
plain alg env f = plain_with alg env (alg.number 1 (pos 0)) f

-- x and x', and g and h at each
unfoldable pub exponents : {A : Type 0} → Algebra A → Inputs A → AtBoth A
exponents alg env = record { at_x = plain alg env.value x; at_x' = plain_with alg env.value env.later x' }

unfoldable pub growth_at_both : {A : Type 0} → Growing A → AtBoth Pace → AtBoth A → AtBoth (Growth A)
growth_at_both r paces e = record { at_x = growth r paces.at_x e.at_x; at_x' = growth r paces.at_x' e.at_x' }

-- on pairs
unfoldable pub as_answers : Inputs Pair → Inputs (Outcome Pair)
as_answers env = record { value = λ s. is (env.value s); rest = λ s. is (env.rest s); later = is env.later }

-- fast: the exponent's high end is above 64
unfoldable pub pace_if : Outcome Bool → Pace
pace_if (is true) = Slow
pace_if (is false) = Fast
pace_if (refused n) = Slow

unfoldable pub pace_of : Outcome Pair → Pace
pace_of (is p) = pace_if (compared p.high sixty_four)
pace_of (refused n) = Slow

unfoldable pub paces_of : Inputs Pair → AtBoth Pace
paces_of env =
    let e : AtBoth (Outcome Pair) = exponents pairs (as_answers env) in
    record { at_x = pace_of e.at_x; at_x' = pace_of e.at_x' }

unfoldable pub pair_growing : Growing (Outcome Pair)
pair_growing = record { operations = pairs; series = pair_series; fast = λ x. is next_to_nothing; rest = after_one one_minus }

unfoldable pub worked : Inputs Pair → Formula → Outcome Pair
worked env f = read pairs (letters (as_answers env) (growth_at_both pair_growing (paces_of env) (exponents pairs (as_answers env)))) f

-- on exact fractions, where the two differences are worked from the values, and 1 / φ is what it is
unfoldable pub exact_inputs : (Slot → Fraction) → Inputs Fraction
exact_inputs env = record { value = env; rest = λ s. exact.rest (env s); later = exact.minus (env "T2") (env "tD") }

unfoldable pub exact_growing : ℕ → Growing Fraction
exact_growing N =
    record {
      operations = fractions;
      series = λ s. exact_series s N;
      fast = λ x. fractions.over (fractions.number 1 (pos 0)) (exact_series phi N x);
      rest = exact.rest;
    }

unfoldable pub exactly : ℕ → AtBoth Pace → (Slot → Fraction) → Formula → Fraction
exactly N paces env f = read fractions (letters (exact_inputs env) (growth_at_both (exact_growing N) paces (exponents fractions (exact_inputs env)))) f

-- the value at a place of a record; a place that no slot has reads as 1, as a missing reference value does
unfoldable pub value_in : Values → ℕ → Pair
value_in v k = get_or v.list k one_pair

unfoldable pub by_owner : {A : Type 0} → Owner → A → A → A → A
by_owner Site s c r = s
by_owner Chemical s c r = c
by_owner Receptor s c r = r

-- the value of each slot, by the table of slots, from the values of a site, a chemical and a receptor
unfoldable pub inputs : Values → Values → Values → Slot → Pair
inputs s c r n = value_in (by_owner (owner_of n) s c r) (place_of n)

-- no record's values
unfoldable pub no_values : Values
no_values = record { list = [] }
