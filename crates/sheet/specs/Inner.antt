-- For the contracts of this crate's inner functions only: the counts as they are worked, each chemical once, then each receptor's lines from
-- the chemicals' sources. proofs/ shows that they are those of Counts.antt, of which alone the calls speak.
use Rattle.std.specs.Prelude.{◌≡◌, ℕ, suc, ◌+◌, ◌*◌, ◌-◌, ◌/◌, ◌%◌, ◌<◌, Bool, false, ◌&&◌, ◌||◌, List, [], ◌∷◌, ◌++◌, ◌≢◌, get_or, set, replicate, Option, Some, None, Result, Ok, Err}
use Rattle.pair.specs.declared.Pair.{Pair}
use Rattle.pair.specs.Calls.{Outcome, is, refused}
use Rattle.slots.specs.Slots.{place_of}
use Rattle.slots.specs.declared.Owner.TheVariants.{Chemical}
use Rattle.slots.specs.declared.Sort.TheVariants.{Ordinary}
use Rattle.cases.specs.CaseConditions.{lacks}
use Rattle.equations.specs.declared.Pathway.{Pathway}
use Rattle.equations.specs.declared.Effect.{Effect}
use Rattle.equations.specs.declared.Effect.TheVariants.{Hazard, Cancer}
use Rattle.equations.specs.declared.Values.{Values}
use Rattle.media.specs.declared.Media.{Media}
use Rattle.media.specs.declared.Ground.{Ground}
use Rattle.media.specs.Media.{media_inputs, ground_of, no_media}
use Rattle.pathway.specs.declared.References.{References}
use Rattle.pathway.specs.Lines.{Figured, absorbed_of, references_from, habits_of, figures_with}
use Rattle.cases.specs.declared.Chemicals.{Chemicals}
use Rattle.cases.specs.declared.Record.{Record}
use Rattle.cases.specs.declared.Value.{Value}
use Rattle.cases.specs.declared.Value.TheVariants.{Absent, Given}
use Rattle.sizes.specs.Sizes.{max_chemicals, most_receptors, pathways_per_chemical, most_lines}
use Rattle.cases.specs.Conditions.{passed, stopped}
use Rattle.cases.specs.Conditions.{Condition, at, first}
use Rattle.cases.specs.Cases.{no_record, value_at}
use Rattle.lists.specs.Lists.{tabulate, chained}
use Rattle.totals.specs.Totals.{Columns}
use Rattle.scenario.specs.declared.Receptor.{Receptor}
use Rattle.scenario.specs.declared.Receptors.{Receptors}
use Rattle.scenario.specs.declared.Site.{Site}
use Rattle.sheet.specs.declared.Source.{Source}
use Rattle.sheet.specs.declared.Sources.{Sources}
use Rattle.scenario.specs.declared.Scenario.{Scenario}
use Rattle.scenario.specs.Scenario.{pair_of, values_of, particles_of, no_receptor, is_refused}
use Rattle.sheet.specs.Sheet.{pathway_at, unit_of, cap_of, counted_in, high_above, over_cap, report_line, line_refused, over_lines, refused_lines, large_lines}
use Rattle.sheet.specs.Counts.{Part, Mark, Low, High, cell_of, side_of, effect_cells, receptor_cells, mean_with, stops_at, unmade}

-- for each of 4 receptors at most six lines for each of 16 chemicals, and a total line: 388
abbrev pub max_rows : ℕ
max_rows = most_receptors * (most_lines + 1)

-- ---- a figure: its two columns, and whether it is above its cap
unfoldable pub columns_of : Effect → Outcome (Option Pair) → Columns
columns_of e (is None) = None
columns_of e (is (Some p)) = counted_in (unit_of e) (is p)
columns_of e (refused n) = None

unfoldable pub above_cap : Effect → Outcome (Option Pair) → Bool
above_cap e (is None) = false
above_cap e (is (Some p)) = high_above (cap_of e) (is p)
above_cap e (refused n) = false

-- ---- a chemical's source: what its lines take, for every receptor
unfoldable pub media_from : Outcome Media → Media
media_from (is m) = m
media_from (refused n) = no_media

unfoldable pub ground_with : Values → Record → Outcome Ground
ground_with site' chemical' = ground_of (media_inputs site' (values_of chemical') (particles_of chemical'))

-- the receptors' means, and none where there is no receptor
unfoldable pub means_of : Values → Values → Receptors → Ground → List Media
means_of site' chemical' receptors' the_ground =
    tabulate receptors'.count (λ j. media_from (mean_with site' chemical' (get_or receptors'.list j no_receptor) the_ground)) ++ replicate (most_receptors - receptors'.count) no_media

unfoldable pub no_means : List Media
no_means = replicate most_receptors no_media

-- what a slot holds for a reference value
unfoldable pub printed_as : Value → Option Pair
printed_as Absent = None
printed_as (Given power digits) = Some (pair_of (Given power digits))

unfoldable pub references_of : Record → References
references_of r =
    references_from (printed_as (value_at r (place_of "RfDo"))) (printed_as (value_at r (place_of "RfDi"))) (printed_as (value_at r (place_of "CSFo"))) (printed_as (value_at r (place_of "CSFi")))

unfoldable pub source_with : Record → Media → List Media → Source
source_with chemical' highest means' = record { absorbed = absorbed_of (values_of chemical'); media = highest; means = means'; references = references_of chemical' }

unfoldable pub source_from : Values → Record → Receptors → Outcome Ground → Source
source_from site' chemical' receptors' (is the_ground) = source_with chemical' the_ground.highest (means_of site' (values_of chemical') receptors' the_ground)
source_from site' chemical' receptors' (refused n) = source_with chemical' no_media no_means

unfoldable pub source_of : Values → Receptors → Record → Source
source_of site' receptors' chemical' = source_from site' chemical' receptors' (ground_with site' chemical')

-- what stands where there is no chemical
unfoldable pub no_source : Source
no_source = source_with no_record no_media no_means

unfoldable pub sources_of : Values → Receptors → Chemicals → Sources
sources_of site' receptors' chemicals' =
    record {
      count = chemicals'.count;
      list = tabulate chemicals'.count (λ i. source_of site' receptors' (get_or chemicals'.records i no_record)) ++ replicate (max_chemicals - chemicals'.count) no_source;
    }

unfoldable pub source_at : Sources → ℕ → Source
source_at sources i = get_or sources.list i no_source

-- 53, by chemical
unfoldable pub stops_with : Values → Receptors → Record → Bool
stops_with site' receptors' chemical' =
    lacks Ordinary Chemical chemical' || stops_at (ground_with site' chemical') (λ j the_ground. mean_with site' (values_of chemical') (get_or receptors'.list j no_receptor) the_ground) receptors'.count

unfoldable pub refused_source : Values → Receptors → List Record → ℕ → List Condition
refused_source site' receptors' records i = at 53 (suc i) 0 (stops_with site' receptors' (get_or records i no_record)) ∷ []

-- the list of sources where no chemical stops, or the first that does
unfoldable pub SourcesTold : Values → Receptors → Chemicals → List Source → Result (Unit {0}) ℕ → Type 0
SourcesTold site' receptors' chemicals' list (Ok done) =
    (first (chained (refused_source site' receptors' chemicals'.records) chemicals'.count) ≡ passed) × (list ≡ (sources_of site' receptors' chemicals').list)
SourcesTold site' receptors' chemicals' list (Err i) = first (chained (refused_source site' receptors' chemicals'.records) chemicals'.count) ≡ stopped 53 i 0

-- ---- a line's figures, of the receptor at place j with these values
unfoldable pub mean_at : Source → ℕ → Media
mean_at s j = get_or s.means j no_media

unfoldable pub figures_from : Site → ℕ → Values → Source → Pathway → Figured
figures_from site' j r s p = figures_with (habits_of site'.guidance r) p site'.values s.absorbed r s.media (mean_at s j) s.references

unfoldable pub figure_for : Effect → Figured → Outcome (Option Pair)
figure_for Hazard f = f.hazard
figure_for Cancer f = f.cancer

-- those of a receptor's line q, counted from 0 without total lines
unfoldable pub figures_worked : Site → Sources → ℕ → Values → ℕ → Figured
figures_worked site' sources j r q = figures_from site' j r (source_at sources (q / pathways_per_chemical)) (pathway_at (q % pathways_per_chemical))

unfoldable pub columns_worked : Site → Sources → ℕ → Values → ℕ → Effect → Columns
columns_worked site' sources j r q e = columns_of e (figure_for e (figures_worked site' sources j r q))

-- those of a chemical's lines, by pathway
unfoldable pub source_columns : Site → ℕ → Values → Source → ℕ → Effect → Columns
source_columns site' j r source p e = columns_of e (figure_for e (figures_from site' j r source (pathway_at p)))

unfoldable pub is_large : Figured → Bool
is_large f = above_cap Hazard f.hazard || above_cap Cancer f.cancer

unfoldable pub is_broken : Figured → Bool
is_broken f = is_refused f.hazard || is_refused f.cancer

-- 53 and, where caps are held, 42 at a chemical's line, after so many report lines
unfoldable pub fault_at : Bool → Figured → ℕ → List Condition
fault_at capped f l = at 53 l 0 (is_broken f) ∷ at 42 l 0 (capped && is_large f) ∷ []

unfoldable pub faulty_line : Bool → Site → ℕ → Values → Source → ℕ → ℕ → List Condition
faulty_line capped site' j r source before p = fault_at capped (figures_from site' j r source (pathway_at p)) (before + suc p)

unfoldable pub faulty_chemical : Bool → Site → ℕ → Values → Source → ℕ → List Condition
faulty_chemical capped site' j r source before = chained (faulty_line capped site' j r source before) pathways_per_chemical

unfoldable pub faulty_worked : Bool → Site → Sources → ℕ → Values → ℕ → List Condition
faulty_worked capped site' sources j r before = chained (λ i. faulty_chemical capped site' j r (source_at sources i) (before + i * pathways_per_chemical)) sources.count

abbrev pub per_receptor : ℕ → ℕ
per_receptor n = n * pathways_per_chemical + 1

unfoldable pub all_faulty : Bool → Site → Sources → List Receptor → ℕ → List Condition
all_faulty capped site' sources receptors' n = chained (λ j. faulty_worked capped site' sources j (get_or receptors' j no_receptor).values (j * per_receptor sources.count)) n

-- ---- what stops a scenario as it is worked: 53 by chemical, then each line in turn, with its cap or without
unfoldable pub lines_faulty : Bool → Scenario → List Condition
lines_faulty capped scenario =
    over_lines scenario
    (λ j i p. line_refused scenario j i p ++ (at 42 (report_line scenario j i p) 0 (capped && (over_cap Hazard scenario j i (pathway_at p) || over_cap Cancer scenario j i (pathway_at p))) ∷ []))

unfoldable pub worked_by : Bool → Scenario → List Condition
worked_by capped scenario = unmade scenario ++ lines_faulty capped scenario

-- what stops it on memory, after its slots: 53 before 42
unfoldable pub strictly : Scenario → List Condition
strictly scenario = unmade scenario ++ (refused_lines scenario ++ large_lines scenario)

-- ---- cells
-- what a call tells, if it does
unfoldable pub if_told : {A : Type 0} → Outcome A → Option A
if_told (is x) = Some x
if_told (refused n) = None

unfoldable pub with_counts : List ℕ → ℕ → Columns → List ℕ
with_counts cells at columns = set (set (set cells at (cell_of Mark columns)) (at + most_lines) (cell_of Low columns)) (at + 2 * most_lines) (cell_of High columns)

unfoldable pub part_of : Part → ℕ
part_of Mark = 0
part_of Low = 1
part_of High = 2

-- the cells from base on hold the columns of the lines of which there are n, and 0 for the others
abbrev pub CellsHold : (ℕ → Effect → Columns) → ℕ → List ℕ → ℕ → Type 0
CellsHold columns n cells base =
    (e : Effect) (w : Part) (q : ℕ) → q < n → get_or cells (base + effect_cells * side_of e + most_lines * part_of w + q) 0 ≡ cell_of w (columns q e)

abbrev pub CellsEmpty : ℕ → List ℕ → ℕ → Type 0
CellsEmpty n cells base =
    (e : Effect) (w : Part) (q : ℕ) → n < suc q → q < most_lines → get_or cells (base + effect_cells * side_of e + most_lines * part_of w + q) 0 ≡ 0

abbrev pub CellsFilled : Site → Sources → List Receptor → ℕ → List ℕ → Type 0
CellsFilled site' sources receptors' n cells =
    (j : ℕ) → j < n →
    CellsHold (columns_worked site' sources j (get_or receptors' j no_receptor).values) (sources.count * pathways_per_chemical) cells (receptor_cells * j)
    × CellsEmpty (sources.count * pathways_per_chemical) cells (receptor_cells * j)

abbrev pub SameBelow : ℕ → List ℕ → List ℕ → Type 0
SameBelow base before after = (k : ℕ) → k < base → get_or after k 0 ≡ get_or before k 0

abbrev pub ZeroFrom : ℕ → List ℕ → Type 0
ZeroFrom base cells = (k : ℕ) → base < suc k → get_or cells k 0 ≡ 0

-- nothing but the cells of n lines from base on was changed
abbrev pub SameBut : ℕ → ℕ → List ℕ → List ℕ → Type 0
SameBut n base before after =
    (k : ℕ) → ((e : Effect) (w : Part) (q : ℕ) → q < n → k ≢ base + effect_cells * side_of e + most_lines * part_of w + q) → get_or after k 0 ≡ get_or before k 0
