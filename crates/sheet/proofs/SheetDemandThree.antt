-- Demand 3 of a sound scenario: where 42 does not hold, for every receptor and effect and every number of series terms from 256 up, a
-- receptor's total encloses the exact sum of its lines that have the reference value, and its ends are close; it is - exactly where there is
-- no such line. An ordinary case in range is one; so is whatever else gives receptors in range. Assumes nothing.
use mathlib.Core.Path.{◌≡◌}
use Prim.Native.Nat.{ℕ, ◌≤◌, ◌<◌}
use Rattle.equations.specs.declared.Effect.{Effect}
use Rattle.cases.specs.Conditions.{passed}
use Rattle.cases.specs.Conditions.{first}
use Rattle.scenario.specs.declared.Scenario.{Scenario}
use Rattle.scenario.specs.Scenario.{scenario_with, entered_from, ordinary_of, Exact}
use Rattle.sizes.specs.Sizes.{pathways_per_chemical}
use Rattle.sheet.specs.Sheet.{pathway_at, columns_at, added_over, total_at, large_lines}
use Rattle.sheet.specs.DemandThree.{exact_line, line_counts, sum_over, count_over, exact_total, lines_added, TotalHolds, CaseDemand3}
use Rattle.scenario.proofs.Sound.{Sound}
use Rattle.scenario.proofs.Entered.{ordinary_sound}
use Rattle.sheet.proofs.Clear.{not_large}
use Rattle.sheet.proofs.LineTotals.{line_totals}
use Rattle.sheet.proofs.TotalLaws.{totals_over, totals_hold}

pub scenario_demand_3 : (scenario : Scenario) {exact : Exact} → Sound scenario exact → first (large_lines scenario) ≡ passed
    → (j : ℕ) → j < scenario.receptors.count → (N : ℕ) → 256 ≤ N → (e : Effect) → TotalHolds (total_at e scenario j) (lines_added e scenario) (exact_total e scenario exact N j)
unfolding total_at lines_added exact_total
scenario_demand_3 scenario {exact} sound small j l N n e =
    totals_hold (total_at e scenario j) (lines_added e scenario) (exact_total e scenario exact N j)
    (totals_over (λ i. added_over (λ p. columns_at e scenario j i (pathway_at p)) pathways_per_chemical) (λ i. count_over (λ p. line_counts e scenario i (pathway_at p)) pathways_per_chemical)
    (λ i. sum_over (λ p. exact_line e scenario exact N j i (pathway_at p)) pathways_per_chemical) scenario.chemicals.count
    (λ i h.
    totals_over (λ p. columns_at e scenario j i (pathway_at p)) (λ p. line_counts e scenario i (pathway_at p)) (λ p. exact_line e scenario exact N j i (pathway_at p)) pathways_per_chemical
    (λ p k. line_totals scenario sound j i l h e (pathway_at p) (not_large scenario small e j i p l h k) N n)))

pub case_demand_3 : CaseDemand3
unfolding CaseDemand3 ordinary_of scenario_with entered_from
case_demand_3 case ranged small = scenario_demand_3 (ordinary_of case) (ordinary_sound case ranged) small
