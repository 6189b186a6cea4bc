-- The calls of the crate `sheet`: the counts of a scenario's lines, in cells, and a receptor's columns and totals read from them. Every scenario
-- and every list of cells has its answer.
use Rattle.std.specs.Prelude.{Ok, Err}
use Rattle.std.specs.Prelude.{Bool, true, false, cond, ◌&&◌, ◌||◌, List, [], ◌∷◌, ◌++◌, ℕ, suc, ◌+◌, ◌*◌, ◌/◌, ◌%◌, ◌≤◌, eqb, ltb, length, get_or, take, drop, Some, None}
use Rattle.pair.specs.Calls.{Outcome, is, refused}
use Rattle.equations.specs.declared.Effect.{Effect}
use Rattle.equations.specs.declared.Effect.TheVariants.{Hazard, Cancer}
use Rattle.slots.specs.Slots.{place_of}
use Rattle.slots.specs.declared.Owner.TheVariants.{Site, Chemical}
use Rattle.slots.specs.declared.Sort.TheVariants.{Ordinary}
use Rattle.cases.specs.CaseConditions.{counts_outside, lacks}
use Rattle.equations.specs.declared.Values.{Values}
use Rattle.equations.specs.Readings.{value_in}
use Rattle.media.specs.declared.Media.{Media}
use Rattle.media.specs.declared.Ground.{Ground}
use Rattle.media.specs.Media.{media_inputs, ground_of, mean_media}
use Rattle.scenario.specs.declared.Receptor.{Receptor}
use Rattle.cases.specs.Conditions.{Status}
use Rattle.cases.specs.Conditions.{passed, stopped}
use Rattle.sizes.specs.Sizes.{most_receptors, pathways_per_chemical, most_lines}
use Rattle.cases.specs.Conditions.{Condition, at, first}
use Rattle.lists.specs.Lists.{tabulate, chained, any_of}
use Rattle.totals.specs.Totals.{Columns, total_of}
use Rattle.scenario.specs.declared.Scenario.{Scenario}
use Rattle.scenario.specs.Scenario.{values_of, particles_of, chemical_in, receptor_in, no_guidance, is_refused, scenario_conditions, unpaired_in}
use Rattle.sheet.specs.Sheet.{pathway_at, columns_at, refused_lines, large_lines, faulty_lines}

-- ---- what stops a scenario, however it was made. Its receptors are pairs, so that of them only counts and ids are asked; the rest of it is as
-- a deck's must be: 21, 22, then 32 and 33 by slot. After that 53 where a value has no pair or the pair rule refuses something, and 42.
-- fewer or more records than a deck has
unfoldable pub miscounted : Scenario → Bool
miscounted scenario = counts_outside Ordinary scenario.chemicals.count scenario.receptors.count

unfoldable pub ground_for : Scenario → ℕ → Outcome Ground
ground_for scenario i = ground_of (media_inputs (values_of scenario.site) (values_of (chemical_in scenario i)) (particles_of (chemical_in scenario i)))

-- the media of a receptor's cancer, from a chemical's ground
unfoldable pub mean_with : Values → Values → Receptor → Ground → Outcome Media
mean_with site' chemical' r the_ground = mean_media the_ground site' chemical' r.stay (value_in r.values (place_of "T2")) r.later

unfoldable pub mean_for : Scenario → ℕ → ℕ → Ground → Outcome Media
mean_for scenario i j the_ground = mean_with (values_of scenario.site) (values_of (chemical_in scenario i)) (receptor_in scenario j) the_ground

-- a ground is refused, or a receptor's media from it
unfoldable pub stops_at : Outcome Ground → (ℕ → Ground → Outcome Media) → ℕ → Bool
stops_at (is the_ground) means n = any_of (λ j. is_refused (means j the_ground)) n
stops_at (refused k) means n = true

-- 53 by chemical: a value that it needs is missing, or its media are refused, those of one receptor's cancer among them
unfoldable pub no_media_at : Scenario → ℕ → List Condition
no_media_at scenario i =
    at 53 (suc i) 0 (lacks Ordinary Chemical (chemical_in scenario i) || stops_at (ground_for scenario i) (mean_for scenario i) scenario.receptors.count) ∷ []

unfoldable pub unmade : Scenario → List Condition
unmade scenario = at 53 0 0 (lacks Ordinary Site scenario.site) ∷ chained (no_media_at scenario) scenario.chemicals.count

-- 53 wherever something has no pair or the pair rule refuses, then 42 by line
unfoldable pub refusals : Scenario → List Condition
refusals scenario = at 53 0 0 (unpaired_in scenario.site scenario.chemicals) ∷ (unmade scenario ++ (refused_lines scenario ++ large_lines scenario))

-- the list of a call on memory
unfoldable pub sheet_conditions : Scenario → List Condition
sheet_conditions scenario = scenario_conditions scenario ++ refusals scenario

-- and of what a deck's reading has tested already, which is not tested again: what has no pair is refused where it is read, and no value is read as 1
unfoldable pub entered_conditions : Scenario → List Condition
entered_conditions scenario = at 21 0 0 (miscounted scenario) ∷ at 33 0 0 (no_guidance scenario) ∷ (unmade scenario ++ faulty_lines scenario)

-- ---- cells: a receptor has six columns of as many cells as it may have lines, hazard's and cancer's: 1 for each line that has counts, the low and
-- the high counts; all three are 0 for -, and where there is no line
abbrev pub effect_cells : ℕ
effect_cells = 3 * most_lines

abbrev pub receptor_cells : ℕ
receptor_cells = 2 * effect_cells

abbrev pub all_cells : ℕ
all_cells = most_receptors * receptor_cells

pub data Part : Type 0 where
  Mark Low High : Part

unfoldable pub cell_of : Part → Columns → ℕ
cell_of w None = 0
cell_of Mark (Some counts) = 1
cell_of Low (Some counts) = counts.low
cell_of High (Some counts) = counts.high

-- which effect and part the column c of a receptor's six is
unfoldable pub effect_at : ℕ → Effect
effect_at c = cond (ltb c 3) Hazard Cancer

unfoldable pub part_at : ℕ → Part
part_at c = cond (eqb (c % 3) 0) Mark (cond (eqb (c % 3) 1) Low High)

-- the columns of receptor j's line q, where the scenario has it
unfoldable pub line_columns : Scenario → ℕ → ℕ → Effect → Columns
line_columns scenario j q e =
    cond (ltb j scenario.receptors.count && ltb q (scenario.chemicals.count * pathways_per_chemical))
    (columns_at e scenario j (q / pathways_per_chemical) (pathway_at (q % pathways_per_chemical)))
    None

unfoldable pub cell_at : Scenario → ℕ → ℕ
cell_at scenario k =
    let c : ℕ = k % receptor_cells / most_lines in
    cell_of (part_at c) (line_columns scenario (k / receptor_cells) (k % most_lines) (effect_at c))

unfoldable pub cells_of : Scenario → List ℕ
cells_of scenario = tabulate all_cells (cell_at scenario)

unfoldable pub no_cells : List ℕ
no_cells = tabulate all_cells (λ k. 0)

unfoldable pub cells_for : Status → Scenario → List ℕ
cells_for (Ok done) scenario = cells_of scenario
cells_for (Err stop) scenario = no_cells

-- a call, of values that a deck's reading has tested or of any: the first condition that holds, and no counts; or every line's
unfoldable pub conditions_by : Bool → Scenario → List Condition
conditions_by true scenario = entered_conditions scenario
conditions_by false scenario = sheet_conditions scenario

unfoldable pub status_by : Bool → Scenario → Status
status_by tested scenario = first (conditions_by tested scenario)

unfoldable pub cells_by : Bool → Scenario → List ℕ
cells_by tested scenario = cells_for (status_by tested scenario) scenario

-- ---- read from cells
unfoldable pub columns_from : ℕ → ℕ → ℕ → Columns
columns_from lines low' high' = cond (eqb lines 0) None (Some (record { low = low'; high = high' }))

unfoldable pub side_of : Effect → ℕ
side_of Hazard = 0
side_of Cancer = 1

-- where receptor j's column of this effect begins
abbrev pub column_start : ℕ → Effect → ℕ
column_start j e = receptor_cells * j + effect_cells * side_of e

-- the cells are those of a scenario, and hold receptor j's lines
unfoldable pub is_held : List ℕ → ℕ → Bool
is_held cells j = eqb (length cells) all_cells && ltb j most_receptors

unfoldable pub columns_found : List ℕ → ℕ → Columns
columns_found cells k = columns_from (get_or cells k 0) (get_or cells (k + most_lines) 0) (get_or cells (k + 2 * most_lines) 0)

-- receptor j's line q; - where the cells have none
unfoldable pub columns_in : List ℕ → ℕ → Effect → ℕ → Columns
columns_in cells j e q = cond (is_held cells j && ltb q most_lines) (columns_found cells (column_start j e + q)) None

-- the total of its first n lines, through the totals call
unfoldable pub totalled_from : Outcome ℕ → Outcome ℕ → Outcome ℕ → Columns
totalled_from (is lines) (is low) (is high) = columns_from lines low high
totalled_from (is lines) (is low) (refused n) = None
totalled_from (is lines) (refused n) z = None
totalled_from (refused n) y z = None

unfoldable pub total_found : List ℕ → ℕ → ℕ → Columns
total_found cells k n =
    totalled_from (total_of (take n (drop k cells))) (total_of (take n (drop (k + most_lines) cells))) (total_of (take n (drop (k + 2 * most_lines) cells)))

unfoldable pub total_in : List ℕ → ℕ → Effect → ℕ → Columns
total_in cells j e n = cond (is_held cells j && ltb n (suc most_lines)) (total_found cells (column_start j e) n) None

-- each count of two columns is at most m
unfoldable pub CountsMost : ℕ → Columns → Type 0
CountsMost m None = Unit {0}
CountsMost m (Some counts) = (counts.low ≤ m) × (counts.high ≤ m)
