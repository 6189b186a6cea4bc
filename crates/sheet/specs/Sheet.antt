-- The lines of a scenario, their counts and totals (document 01, "Units and totals"), and 53 and 42 of "Where a deck stops". Receptor j,
-- chemical i and pathway p come in this order and are counted from 0.
use Rattle.std.specs.Prelude.{◌≡◌, Bool, true, false, cond, not, ◌&&◌, ◌||◌, List, [], ◌∷◌, ◌++◌, ℕ, zero, suc, ◌+◌, ◌*◌, ℤ, pos, negsuc, Some, None}
use Rattle.pair.specs.declared.Number.{Number}
use Rattle.pair.specs.declared.Pair.{Pair}
use Rattle.pair.specs.declared.Units.{Units}
use Rattle.pair.specs.Number.{is_pair, one}
use Rattle.pair.specs.Calls.{Outcome, is, refused, compared, written, in_units}
use Rattle.equations.specs.declared.Pathway.{Pathway}
use Rattle.equations.specs.declared.Pathway.TheVariants.{Air, SoilSummer, SoilWinter, Skin, AboveGround, BelowGround}
use Rattle.equations.specs.declared.Effect.{Effect}
use Rattle.equations.specs.declared.Effect.TheVariants.{Hazard, Cancer}
use Rattle.equations.specs.Page.{line, reference_slot}
use Rattle.equations.specs.Readings.{worked}
use Rattle.cases.specs.declared.Value.{Value}
use Rattle.cases.specs.declared.Value.TheVariants.{Absent, Given}
use Rattle.cases.specs.Conditions.{Condition, at}
use Rattle.totals.specs.Totals.{Columns, ◌added◌}
use Rattle.scenario.specs.declared.Scenario.{Scenario}
use Rattle.scenario.specs.Scenario.{stay_in, guidance_in, given_in, pairs_at, is_refused}
use Rattle.sizes.specs.Sizes.{pathways_per_chemical}
use Rattle.lists.specs.Lists.{chained}

unfoldable pub pathway_at : ℕ → Pathway
pathway_at zero = Air
pathway_at (suc zero) = SoilSummer
pathway_at (suc (suc zero)) = SoilWinter
pathway_at (suc (suc (suc zero))) = Skin
pathway_at (suc (suc (suc (suc zero)))) = AboveGround
pathway_at (suc (suc (suc (suc (suc n))))) = BelowGround

unfoldable pub is_given : Value → Bool
is_given Absent = false
is_given (Given power digits) = true

-- whether a line has the reference value that the page gives it: RfD for hazard, CSF for cancer
unfoldable pub has_reference : Effect → Scenario → ℕ → Pathway → Bool
has_reference e scenario i p = is_given (given_in scenario i (reference_slot e p))

-- the quotient or the risk of chemical i on pathway p for receptor j, by the working rule and the year's guidance
unfoldable pub figure_at : Effect → Scenario → ℕ → ℕ → Pathway → Outcome Pair
figure_at e scenario j i p = worked (pairs_at scenario j i) (line (guidance_in scenario) e (stay_in scenario j) p)

-- quotients are counted in units of 1E-12, risks in 1E-15
unfoldable pub unit_of : Effect → ℤ
unit_of Hazard = negsuc 11
unit_of Cancer = negsuc 14

unfoldable pub counted : Outcome Units → Columns
counted (is n) = Some n
counted (refused n) = None

unfoldable pub counted_in : ℤ → Outcome Pair → Columns
counted_in u (is p) = counted (in_units p u)
counted_in u (refused n) = None

-- the two columns of a line; - in both without the reference value
unfoldable pub columns_at : Effect → Scenario → ℕ → ℕ → Pathway → Columns
columns_at e scenario j i p = cond (has_reference e scenario i p) (counted_in (unit_of e) (figure_at e scenario j i p)) None

-- a line's two columns are the pair that the working rule gives for its equation, counted in units
pub record ByRule (e : Effect) (scenario : Scenario) (j i : ℕ) (p : Pathway) : Type 0 where
  pub pair : Pair
  pub rule : figure_at e scenario j i p ≡ is pair
  pub proper : is_pair pair ≡ true
  pub units : Units
  pub counted : in_units pair (unit_of e) ≡ is units
  pub columns : columns_at e scenario j i p ≡ Some units

-- f 0 added f 1 .. added f (n − 1)
unfoldable pub added_over : (ℕ → Columns) → ℕ → Columns
added_over f zero = None
added_over f (suc n) = added_over f n added f n

-- a receptor's total, over its lines that have the reference value
unfoldable pub total_at : Effect → Scenario → ℕ → Columns
total_at e scenario j = added_over (λ i. added_over (λ p. columns_at e scenario j i (pathway_at p)) pathways_per_chemical) scenario.chemicals.count

-- ---- 53 and 42, by line
-- lines of one receptor, its total line included
unfoldable pub lines_per_receptor : Scenario → ℕ
lines_per_receptor scenario = scenario.chemicals.count * pathways_per_chemical + 1

-- above a bound, by the pair library's comparison
unfoldable pub is_above : Outcome Bool → Bool
is_above (is at_most) = not at_most
is_above (refused n) = false

unfoldable pub high_above : Number → Outcome Pair → Bool
high_above bound (is p) = is_above (compared p.high bound)
high_above bound (refused n) = false

-- a quotient's high end is at most 10,000, a risk's at most 1
unfoldable pub cap_of : Effect → Number
cap_of Hazard = written 10000 (pos 0)
cap_of Cancer = one

-- a figure that the pair rule refuses, which never prints -
unfoldable pub unworked : Effect → Scenario → ℕ → ℕ → Pathway → Bool
unworked e scenario j i p = has_reference e scenario i p && is_refused (figure_at e scenario j i p)

unfoldable pub over_cap : Effect → Scenario → ℕ → ℕ → Pathway → Bool
over_cap e scenario j i p = has_reference e scenario i p && high_above (cap_of e) (figure_at e scenario j i p)

-- told as the report line, total lines counted too
unfoldable pub report_line : Scenario → ℕ → ℕ → ℕ → ℕ
report_line scenario j i p = j * lines_per_receptor scenario + i * pathways_per_chemical + suc p

unfoldable pub line_refused : Scenario → ℕ → ℕ → ℕ → List Condition
line_refused scenario j i p = at 53 (report_line scenario j i p) 0 (unworked Hazard scenario j i (pathway_at p) || unworked Cancer scenario j i (pathway_at p)) ∷ []

unfoldable pub line_too_large : Scenario → ℕ → ℕ → ℕ → List Condition
line_too_large scenario j i p = at 42 (report_line scenario j i p) 0 (over_cap Hazard scenario j i (pathway_at p) || over_cap Cancer scenario j i (pathway_at p)) ∷ []

-- of every line
unfoldable pub over_lines : Scenario → (ℕ → ℕ → ℕ → List Condition) → List Condition
over_lines scenario f = chained (λ j. chained (λ i. chained (f j i) pathways_per_chemical) scenario.chemicals.count) scenario.receptors.count

unfoldable pub refused_lines : Scenario → List Condition
refused_lines scenario = over_lines scenario (line_refused scenario)

unfoldable pub large_lines : Scenario → List Condition
large_lines scenario = over_lines scenario (line_too_large scenario)

-- each line in turn
unfoldable pub faulty_lines : Scenario → List Condition
faulty_lines scenario = over_lines scenario (λ j i p. line_refused scenario j i p ++ line_too_large scenario j i p)
