-- Demand 3, for every accepted deck: a receptor's total against the exact sum of its lines, as `sheet` sets them (its DemandThree.antt).
use Rattle.std.specs.Prelude.{◌≡◌, List, ℕ, ◌≤◌, ◌<◌}
use Rattle.equations.specs.declared.Effect.{Effect}
use Rattle.cases.specs.Conditions.{passed}
use Rattle.cases.specs.Conditions.{first}
use Rattle.sheet.specs.Sheet.{total_at}
use Rattle.sheet.specs.DemandThree.{TotalHolds, lines_added, exact_total}
use Rattle.report.specs.Forms.{Call, scenario_of, exact_of, all_conditions}

-- a deck is accepted by a call where no condition of document 01's table holds, with some buffer
pub record Accepted (call : Call) (deck : List ℕ) : Type 0 where
  pub room : ℕ
  pub none : first (all_conditions call deck room) ≡ passed

-- for every accepted deck, receptor, effect and number N of series terms from 256 up
unfoldable pub Demand3 : Call → Type 0
Demand3 call =
    (deck : List ℕ) → Accepted call deck → (j : ℕ) → j < (scenario_of call deck).receptors.count → (N : ℕ) → 256 ≤ N → (e : Effect) →
    TotalHolds (total_at e (scenario_of call deck) j) (lines_added e (scenario_of call deck)) (exact_total e (scenario_of call deck) (exact_of call deck) N j)
