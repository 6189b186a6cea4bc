-- The composite receptor (document 02, P2): one person made of life stages, which a composite's deck has as receptors, each with its years.
-- The weighting is written once and read twice: on pairs by the working rule, and on exact fractions. The length of exposure T2 (P4) is no
-- reading of it: it is the sum of the years to their last printed digit. From there on the composite is a receptor like any other: its report
-- is that of Report.antt of `report`, and so are its demands.
use Rattle.std.specs.Prelude.{◌≡◌, cond, [], ◌∷◌, ℕ, zero, suc, ◌-◌, ◌<◌, eqb, ℤ, pos}
use Rattle.pair.specs.declared.Pair.{Pair}
use Rattle.pair.specs.Fraction.{Fraction}
use Rattle.pair.specs.Calls.{Outcome, is, entry}
use Rattle.times.specs.declared.Years.{Years}
use Rattle.times.specs.Times as years
use Rattle.slots.specs.declared.Owner.TheVariants as owners
use Rattle.slots.specs.declared.Sort.TheVariants.{Composite}
use Rattle.slots.specs.Slots.{Slot, owner_of, place_of}
use Rattle.equations.specs.Formula.{Algebra, pairs, fractions}
use Rattle.cases.specs.declared.Case.{Case}
use Rattle.cases.specs.declared.Value.TheVariants as Values
use Rattle.sizes.specs.Sizes.{slots_per_record}
use Rattle.lists.specs.Lists.{tabulate}
use Rattle.cases.specs.Cases.{value_at, receptor_at}
use Rattle.scenario.specs.declared.Receptor.{Receptor}
use Rattle.scenario.specs.declared.Receptors.{Receptors}
use Rattle.scenario.specs.declared.Scenario.{Scenario}
use Rattle.scenario.specs.Scenario.{or_no_pair, pair_of, no_receptor, fraction_of, receptor_in, stay_in, pairs_at, scenario_with, or_no_time, time_given, deposition_of, receptor_with}
use Rattle.report.specs.Forms.{Call}
use Rattle.report.specs.Report.{rows_of}
use Rattle.report.specs.DemandTwo.{Timed, Exposed}

-- ---- the weighting, of stages 0 to last; stage j has its slots' values by their places
-- f 0 + f 1 + .. + f n, in deck order
unfoldable pub summed : {A : Type 0} → Algebra A → (ℕ → A) → ℕ → A
summed alg f zero = f 0
summed alg f (suc n) = alg.plus (summed alg f n) (f (suc n))

unfoldable pub sum_of_years : {A : Type 0} → Algebra A → (ℕ → ℕ → A) → ℕ → A
sum_of_years alg stage last = summed alg (λ j. stage j (place_of "years")) last

-- the sum of years × value, divided by the sum of the years
unfoldable pub mean : {A : Type 0} → Algebra A → (ℕ → ℕ → A) → ℕ → ℕ → A
mean alg stage last k = alg.over (summed alg (λ j. alg.times (stage j (place_of "years")) (stage j k)) last) (sum_of_years alg stage last)

-- every field but ED, which is the sum of the years, ATc, which is 365 × that sum, and T2, which is given
unfoldable pub composed : {A : Type 0} → Algebra A → (ℕ → ℕ → A) → A → ℕ → ℕ → A
composed alg stage exposure last k =
    cond (eqb k (place_of "ED")) (sum_of_years alg stage last)
    (cond (eqb k (place_of "ATc")) (alg.times (alg.number 365 (pos 0)) (sum_of_years alg stage last))
    (cond (eqb k (place_of "T2")) exposure
    (mean alg stage last k)))

-- ---- the exposure of stages 0 to last, exact: f 0 + f 1 + .. + f n, in deck order
unfoldable pub years_together : (ℕ → Years) → ℕ → Years
years_together f zero = f 0
years_together f (suc n) = or_no_time (years.together (years_together f n) (f (suc n)))

-- ---- a case's stages, as pairs and exactly
unfoldable pub pair_stage : Case → ℕ → ℕ → Outcome Pair
pair_stage case j k = is (pair_of (value_at (receptor_at case j) k))

unfoldable pub exact_stage : Case → ℕ → ℕ → Fraction
exact_stage case j k = fraction_of (value_at (receptor_at case j) k)

unfoldable pub last_stage : Case → ℕ
last_stage case = case.receptors.count - 1

unfoldable pub stage_years : Case → ℕ → Years
stage_years case j = time_given (value_at (receptor_at case j) (place_of "years"))

unfoldable pub time_exposed : Case → Years
time_exposed case = years_together (stage_years case) (last_stage case)

-- ---- the composite, under the first one's id; T2 is rounded here, once
unfoldable pub pair_composite : Case → ℕ → Outcome Pair
pair_composite case k = composed pairs (pair_stage case) (years.as_pair (time_exposed case)) (last_stage case) k

unfoldable pub composite_receptor : Case → Receptor
composite_receptor case =
    receptor_with (receptor_at case 0).id (record { list = tabulate slots_per_record (λ k. or_no_pair (pair_composite case k)) }) (time_exposed case) (deposition_of case.site)

-- a single receptor
unfoldable pub composite_from : Case → Receptors
composite_from case = record { count = 1; list = composite_receptor case ∷ no_receptor ∷ no_receptor ∷ no_receptor ∷ [] }

-- exactly, T2 is the sum of the years as ED is
unfoldable pub exact_composite : Case → ℕ → Slot → Fraction
exact_composite case j s = composed fractions (exact_stage case) (sum_of_years fractions (exact_stage case) (last_stage case)) (last_stage case) (place_of s)

-- the composite call
unfoldable pub composite : Call
composite = record { sort = Composite; receptors = composite_from; exact = exact_composite; form = rows_of }

unfoldable pub composite_scenario : Case → Scenario
composite_scenario case = scenario_with case (composite_from case)

-- What demand 2 says of its receptor: each slot's pair is the working rule's answer to the weighting, from the entries of what is printed; but
-- T2 is the sum of the years, to their last printed digit, and rounded once to the pair.
pub record Composed (case : Case) : Type 0 where
  -- one receptor, under the first stage's id
  pub alone : (composite_scenario case).receptors.count ≡ 1
  pub named : (receptor_in (composite_scenario case) 0).id ≡ (receptor_at case 0).id
  pub entered : (j : ℕ) → j < case.receptors.count → (s : Slot) (digits : ℕ) (power : ℤ) → owner_of s ≡ owners.Receptor
      → value_at (receptor_at case j) (place_of s) ≡ Values.Given power digits → entry digits power ≡ pair_stage case j (place_of s)
  pub rule : (i : ℕ) (s : Slot) → owner_of s ≡ owners.Receptor → pair_composite case (place_of s) ≡ is ((pairs_at (composite_scenario case) 0 i).value s)
  -- no time on the way is rounded or refused: a stage's years, each sum of them in deck order, and tD
  pub staged : (j : ℕ) → j < case.receptors.count → Timed (value_at (receptor_at case j) (place_of "years"))
  pub added : (j : ℕ) → suc j < case.receptors.count
      → years.together (years_together (stage_years case) j) (stage_years case (suc j)) ≡ is (years_together (stage_years case) (suc j))
  pub deposition : Timed (value_at case.site (place_of "tD"))
  -- T2's pair is that of the sum, and it is set against tD as every exposure is
  pub taken : (i : ℕ) → years.as_pair (time_exposed case) ≡ is ((pairs_at (composite_scenario case) 0 i).value "T2")
  pub exposed : (i : ℕ) → Exposed (time_exposed case) (deposition_of case.site) (stay_in (composite_scenario case) 0) (pairs_at (composite_scenario case) 0 i).later
