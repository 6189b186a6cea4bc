-- Demands 1 and 2, of a report call's answer and buffer (Report.antt). For every deck and buffer either no condition of document 01's table
-- holds, and the whole report stands in the buffer, each line the working rule's, to be read back; or one holds, the first of them is told,
-- and no byte changed.
use Rattle.std.specs.Prelude.{◌≡◌, Bool, true, false, not, List, ◌∷◌, ◌++◌, ◌⊎◌, ℕ, ◌+◌, ◌*◌, ◌<◌, ℤ, length, take, drop}
use Rattle.std.specs.Option.{unwrap_or}
use Rattle.pair.specs.declared.Pair.{Pair}
use Rattle.pair.specs.Calls.{is, entry, one_minus_entry}
use Rattle.slots.specs.Slots.{Slot, owner_of, place_of, at_most_one}
use Rattle.slots.specs.declared.Owner.TheVariants.{Receptor}
use Rattle.times.specs.declared.Years.{Years}
use Rattle.times.specs.Times as years
use Rattle.equations.specs.declared.Stay.{Stay}
use Rattle.equations.specs.declared.Stay.TheVariants.{Within, Beyond}
use Rattle.equations.specs.declared.Effect.{Effect}
use Rattle.cases.specs.declared.Case.{Case}
use Rattle.cases.specs.declared.Value.{Value}
use Rattle.cases.specs.declared.Value.TheVariants as Values
use Rattle.cases.specs.Conditions.{Condition, NoneHolds}
use Rattle.deck.specs.Parts.{lines_of, line_of}
use Rattle.deck.specs.DeckConditions.{id_of}
use Rattle.deck.specs.DeckCase.{chemicals_start, case_of}
use Rattle.cases.specs.Cases.{value_at, chemical_at, receptor_at}
use Rattle.text.specs.Text.{report_line_width, row_text, FitsColumns}
use Rattle.scenario.specs.declared.Scenario.{Scenario}
use Rattle.scenario.specs.Scenario.{receptor_in, stay_in, given_in, pairs_at, time_given, deposition_of, ordinary_of}
use Rattle.sizes.specs.Sizes.{site_lines, record_lines, pathways_per_chemical}
use Rattle.sheet.specs.Sheet.{pathway_at, has_reference, ByRule, lines_per_receptor}
use Rattle.report.specs.Forms.{Call, scenario_of, all_conditions, length_of, outcome_of, buffer_of, rows_for}
use Rattle.report.specs.Report.{row_at, total_row}

-- line l of a report, counted from 0
unfoldable pub line_in : List ℕ → ℕ → List ℕ
line_in report l = take report_line_width (drop (report_line_width * l) report)

pub record Printed (scenario : Scenario) (report : List ℕ) : Type 0 where
  -- receptor j's line of chemical i and pathway p, and its total line after them, where they stand in the report
  pub line : (j i p : ℕ) → j < scenario.receptors.count → i < scenario.chemicals.count → p < pathways_per_chemical
      → line_in report (j * lines_per_receptor scenario + i * pathways_per_chemical + p) ≡ row_text (row_at scenario j i p)
  pub total : (j : ℕ) → j < scenario.receptors.count
      → line_in report (j * lines_per_receptor scenario + scenario.chemicals.count * pathways_per_chemical) ≡ row_text (total_row scenario j)
  pub rule : (e : Effect) (j i p : ℕ) → j < scenario.receptors.count → i < scenario.chemicals.count → p < pathways_per_chemical
      → has_reference e scenario i (pathway_at p) ≡ true → ByRule e scenario j i (pathway_at p)
  -- every number has room in its columns, so that a line's text determines them (`text_determines` of the crate `text`)
  pub line_fits : (j i p : ℕ) → j < scenario.receptors.count → i < scenario.chemicals.count → p < pathways_per_chemical → FitsColumns (row_at scenario j i p)
  pub total_fits : (j : ℕ) → j < scenario.receptors.count → FitsColumns (total_row scenario j)
  -- each slot's pair, of the site and of the chemicals, is the entry of the value that is printed there
  pub entered : (j i : ℕ) → j < scenario.receptors.count → i < scenario.chemicals.count → (s : Slot) (digits : ℕ) (power : ℤ)
      → given_in scenario i s ≡ Values.Given power digits → entry digits power ≡ is ((pairs_at scenario j i).value s)
  -- 1 less a slot that is at most 1, as 1 − Fv, is taken from the digits that are printed there
  pub rested : (j i : ℕ) → j < scenario.receptors.count → i < scenario.chemicals.count → (s : Slot) (digits : ℕ) (power : ℤ)
      → given_in scenario i s ≡ Values.Given power digits → at_most_one s ≡ true → one_minus_entry digits power ≡ is ((pairs_at scenario j i).rest s)

-- The deck has the lines of its records and EN and no other, so that none is left out, and a record's id is that of its first line.
pub record OwnLines (deck : List ℕ) : Type 0 where
  pub all : lines_of deck ≡ site_lines + record_lines * ((case_of deck).chemicals.count + (case_of deck).receptors.count) + 1
  pub chemical : (i : ℕ) → i < (case_of deck).chemicals.count → (chemical_at (case_of deck) i).id ≡ unwrap_or (id_of (line_of deck (chemicals_start + record_lines * i))) 0
  pub receptor : (j : ℕ) → j < (case_of deck).receptors.count
      → (receptor_at (case_of deck) j).id ≡ unwrap_or (id_of (line_of deck (chemicals_start + record_lines * (case_of deck).chemicals.count + record_lines * j))) 0

-- no condition holds: 0, the report's length, 0; the report, of receptors made so; and past it what was there before
pub record Reported (call : Call) (Made : Case → Type 0) (deck buffer : List ℕ) : Type 0 where
  pub none : NoneHolds (all_conditions call deck (length buffer))
  pub told : outcome_of call deck (length buffer) ≡ record { number = 0; line = length_of (rows_for call deck); field = 0 }
  pub printed : Printed (scenario_of call deck) (buffer_of call deck buffer)
  -- of the deck's records: its chemicals, under their ids, and receptors made so
  pub own : OwnLines deck
  pub chemicals : (scenario_of call deck).chemicals ≡ (case_of deck).chemicals
  pub made : Made (case_of deck)
  pub past : drop (length_of (rows_for call deck)) (buffer_of call deck buffer) ≡ drop (length_of (rows_for call deck)) buffer

-- the first condition that holds is told, and no byte changed
pub record Refused (call : Call) (deck buffer : List ℕ) : Type 0 where
  pub before : List Condition
  pub met : Condition
  pub after : List Condition
  pub order : all_conditions call deck (length buffer) ≡ before ++ (met ∷ after)
  pub none : NoneHolds before
  pub holds : met.holds ≡ true
  pub told : outcome_of call deck (length buffer) ≡ record { number = met.number; line = met.line; field = met.field }
  pub same : buffer_of call deck buffer ≡ buffer

-- for every deck and buffer, of any bytes and lengths
unfoldable pub Demand2 : Call → (Case → Type 0) → Type 0
Demand2 call Made = (deck buffer : List ℕ) → Reported call Made deck buffer ⊎ Refused call deck buffer

unfoldable pub is_beyond : Stay → Bool
is_beyond Within = false
is_beyond Beyond = true

-- An exposure T2 is set against the deposition tD on the printed digits (document 02, P4): T2 ≤ tD is decided by the exact times, and beyond it
-- T2 − tD is their exact difference, rounded once.
pub record Exposed (exposure deposition : Years) (stay : Stay) (later : Pair) : Type 0 where
  pub order : years.at_most exposure deposition ≡ is (not (is_beyond stay))
  pub difference : stay ≡ Beyond → years.beyond exposure deposition ≡ is later

-- a printed time is taken as it is
pub record Timed (v : Value) : Type 0 where
  pub taken : (digits : ℕ) (power : ℤ) → v ≡ Values.Given power digits → years.printed digits power ≡ is (time_given v)

-- An ordinary deck's receptors are made so: each slot's pair is the entry of the value that is printed there, and T2 is set against tD as both are
-- printed.
pub record Entered (case : Case) : Type 0 where
  -- as many as the deck has, each under its own id
  pub many : (ordinary_of case).receptors.count ≡ case.receptors.count
  pub named : (j : ℕ) → j < case.receptors.count → (receptor_in (ordinary_of case) j).id ≡ (receptor_at case j).id
  pub entered : (j i : ℕ) → j < case.receptors.count → (s : Slot) (digits : ℕ) (power : ℤ) → owner_of s ≡ Receptor
      → value_at (receptor_at case j) (place_of s) ≡ Values.Given power digits → entry digits power ≡ is ((pairs_at (ordinary_of case) j i).value s)
  pub deposition : Timed (value_at case.site (place_of "tD"))
  pub exposure : (j : ℕ) → j < case.receptors.count → Timed (value_at (receptor_at case j) (place_of "T2"))
  pub exposed : (j i : ℕ) → j < case.receptors.count
      → Exposed (time_given (value_at (receptor_at case j) (place_of "T2"))) (deposition_of case.site) (stay_in (ordinary_of case) j) (pairs_at (ordinary_of case) j i).later
