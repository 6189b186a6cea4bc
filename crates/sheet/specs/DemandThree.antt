-- Demand 3 of a scenario: what a receptor's total is set against. The exact sum is that of its lines that have the reference value, each worked
-- exactly from the printed values with N terms of each series, by the guidance of the site's year, counted in units and not rounded. Whether T2 is
-- above tD is decided on the exact values (P4); whether a chemical is lost fast is the pairs' choice (document 02, P5).
use Rattle.std.specs.Prelude.{◌≡◌, cond, ℕ, zero, suc, ◌+◌, ◌*◌, ◌^◌, ◌≤◌, ◌<◌, Some, None}
use Rattle.pair.specs.Fraction.{Fraction, plus}
use Rattle.equations.specs.declared.Pathway.{Pathway}
use Rattle.equations.specs.declared.Effect.{Effect}
use Rattle.equations.specs.declared.Effect.TheVariants.{Hazard, Cancer}
use Rattle.equations.specs.Page.{line}
use Rattle.equations.specs.Readings.{paces_of, exactly}
use Rattle.cases.specs.declared.Case.{Case}
use Rattle.cases.specs.Conditions.{passed}
use Rattle.cases.specs.Conditions.{first}
use Rattle.cases.specs.Ranged.{Ranged}
use Rattle.slots.specs.declared.Sort.TheVariants.{Ordinary}
use Rattle.totals.specs.Totals.{Columns}
use Rattle.scenario.specs.declared.Scenario.{Scenario}
use Rattle.scenario.specs.Scenario.{guidance_in, pairs_at, ordinary_of, exact_at, Exact, exact_stay}
use Rattle.sheet.specs.Sheet.{pathway_at, has_reference, total_at, large_lines}
use Rattle.sizes.specs.Sizes.{pathways_per_chemical}

-- a fraction in units of 1E-12, or of 1E-15
unfoldable pub units_per_one : Effect → ℕ
units_per_one Hazard = 10 ^ 12
units_per_one Cancer = 10 ^ 15

unfoldable pub in_units_of : Effect → Fraction → Fraction
in_units_of e x = record { num = x.num * units_per_one e; den = x.den }

unfoldable pub nothing : Fraction
nothing = record { num = 0; den = 1 }

-- a line's exact fraction, where it counts
unfoldable pub exact_line : Effect → Scenario → Exact → ℕ → ℕ → ℕ → Pathway → Fraction
exact_line e scenario exact N j i p = cond (has_reference e scenario i p) (in_units_of e (exactly N (paces_of (pairs_at scenario j i)) (exact j i) (line (guidance_in scenario) e (exact_stay (exact j i)) p))) nothing

unfoldable pub line_counts : Effect → Scenario → ℕ → Pathway → ℕ
line_counts e scenario i p = cond (has_reference e scenario i p) 1 0

-- f 0 + f 1 + .. + f (n − 1)
unfoldable pub sum_over : (ℕ → Fraction) → ℕ → Fraction
sum_over f zero = nothing
sum_over f (suc n) = plus (sum_over f n) (f n)

unfoldable pub count_over : (ℕ → ℕ) → ℕ → ℕ
count_over f zero = 0
count_over f (suc n) = count_over f n + f n

-- the exact sum of receptor j's lines that have the reference value, and how many they are
unfoldable pub exact_total : Effect → Scenario → Exact → ℕ → ℕ → Fraction
exact_total e scenario exact N j = sum_over (λ i. sum_over (λ p. exact_line e scenario exact N j i (pathway_at p)) pathways_per_chemical) scenario.chemicals.count

unfoldable pub lines_added : Effect → Scenario → ℕ
lines_added e scenario = count_over (λ i. count_over (λ p. line_counts e scenario i (pathway_at p)) pathways_per_chemical) scenario.chemicals.count

-- a total is - exactly where no line was added; else it encloses the exact sum, by multiplying across, and its ends are close
pub record Enclosed (low high n : ℕ) (exact : Fraction) : Type 0 where
  pub some : 0 < n
  pub proper : 0 < exact.den
  pub least : low * exact.den ≤ exact.num
  pub most : exact.num ≤ high * exact.den
  pub close : 5000 * high ≤ 5001 * low + 15000 * n

unfoldable pub TotalHolds : Columns → ℕ → Fraction → Type 0
TotalHolds None n exact = n ≡ 0
TotalHolds (Some counts) n exact = Enclosed counts.low counts.high n exact

-- for every ordinary case in range of which 42 does not hold, every receptor, effect and number N of series terms from 256 up
unfoldable pub CaseDemand3 : Type 0
CaseDemand3 =
    (case : Case) → Ranged Ordinary case → first (large_lines (ordinary_of case)) ≡ passed →
    (j : ℕ) → j < case.receptors.count → (N : ℕ) → 256 ≤ N → (e : Effect) →
    TotalHolds (total_at e (ordinary_of case) j) (lines_added e (ordinary_of case)) (exact_total e (ordinary_of case) (exact_at case) N j)
