-- No condition of a sheet is 41: neither that of its year, nor those of its chemicals' media, which tell 53, nor those of its lines. Assumes nothing.
use Prim.Native.Nat.{ℕ}
use native.Mathlib.Omega.{arith}
use mathlib.Core.Logic.{◌≢◌}
use Rattle.cases.specs.Conditions.{Without}
use Rattle.cases.proofs.FirstMet.{without_append, without_chained}
use mathlib.Core.List.{◌++◌}
use lib.ListN.{get_or}
use Rattle.slots.specs.declared.Owner.{Owner}
use Rattle.slots.specs.declared.Owner.TheVariants.{Site, Chemical}
use Rattle.slots.specs.declared.Sort.TheVariants.{Ordinary}
use Rattle.cases.specs.declared.Record.{Record}
use Rattle.cases.specs.Cases.{no_record}
use Rattle.cases.specs.CaseConditions.{slot_conditions, record_conditions, chemical_conditions, source_conditions, memory_conditions}
use Rattle.scenario.specs.declared.Scenario.{Scenario}
use Rattle.scenario.specs.Scenario.{scenario_conditions}
use Rattle.sizes.specs.Sizes.{pathways_per_chemical, slots_per_record}
use Rattle.sheet.specs.Sheet.{line_refused, line_too_large, over_lines, refused_lines, large_lines, faulty_lines}
use Rattle.sheet.specs.Counts.{no_media_at, unmade, refusals, entered_conditions}

-- the lines' are 42
line_without : (n : ℕ) → 42 ≢ n → (scenario : Scenario) (j i p : ℕ) → Without n (line_too_large scenario j i p)
unfolding line_too_large
line_without n other scenario j i p = (other, tt)

pub large_without : (n : ℕ) → 42 ≢ n → (scenario : Scenario) → Without n (large_lines scenario)
unfolding large_lines over_lines
large_without n other scenario =
    without_chained n _
    (λ j. without_chained n _ (λ i. without_chained n (line_too_large scenario j i) (line_without n other scenario j i) pathways_per_chemical) scenario.chemicals.count)
    scenario.receptors.count

refused_without : (scenario : Scenario) → Without 41 (refused_lines scenario)
unfolding refused_lines over_lines line_refused
refused_without scenario =
    without_chained 41 _ (λ j. without_chained 41 _ (λ i. without_chained 41 (line_refused scenario j i) (λ p. (λ e. omega arith, tt)) pathways_per_chemical) scenario.chemicals.count) scenario.receptors.count

-- those before the lines are 53
pub unmade_without : (n : ℕ) → 53 ≢ n → (scenario : Scenario) → Without n (unmade scenario)
unfolding unmade no_media_at
unmade_without n d scenario = (d, without_chained n (no_media_at scenario) (λ i. (d, tt)) scenario.chemicals.count)

-- those of a case's slots are 32 and 33
record_without : (o : Owner) (r : Record) → Without 41 (record_conditions Ordinary o r)
unfolding record_conditions slot_conditions
record_without o r = without_chained 41 _ (λ k. (λ e. omega arith, (λ e. omega arith, tt))) slots_per_record

pub scenario_without : (scenario : Scenario) → Without 41 (scenario_conditions scenario)
unfolding scenario_conditions memory_conditions source_conditions chemical_conditions
scenario_without scenario =
    (λ e. omega arith, (λ e. omega arith, without_append 41 (record_conditions Ordinary Site scenario.site) _ (record_without Site scenario.site) (without_chained 41 _ (λ i. record_without Chemical (get_or scenario.chemicals.records i no_record)) scenario.chemicals.count)))

pub refusals_without : (scenario : Scenario) → Without 41 (refusals scenario)
unfolding refusals
refusals_without scenario = (
  λ e. omega arith,
  without_append 41 (unmade scenario) (refused_lines scenario ++ large_lines scenario) (unmade_without 41 (λ e. omega arith) scenario)
      (without_append 41 (refused_lines scenario) (large_lines scenario) (refused_without scenario) (large_without 41 (λ e. omega arith) scenario)),
)

pub entered_without : (scenario : Scenario) → Without 41 (entered_conditions scenario)
unfolding entered_conditions faulty_lines over_lines line_refused line_too_large
entered_without scenario = (
  λ e. omega arith,
  (
    λ e. omega arith,
    without_append 41 (unmade scenario) _ (unmade_without 41 (λ e. omega arith) scenario)
        (without_chained 41 _ (λ j. without_chained 41 _ (λ i. without_chained 41 _ (λ p. (λ e. omega arith, (λ e. omega arith, tt))) pathways_per_chemical) scenario.chemicals.count) scenario.receptors.count),
  ),
)
