-- What the calls that print a sheet share: 51, what is told and what the buffer holds afterwards, over the rows that a form prints. Document 01's
-- report (Report.antt) is a form; another sheet over the same scenarios is another.
use Rattle.std.specs.Prelude.{Ok, Err}
use Rattle.std.specs.Prelude.{ℕ, ◌*◌, List, ◌∷◌, ◌++◌, ltb, length, drop}
use Rattle.pair.specs.Fraction.{Fraction}
use Rattle.slots.specs.declared.Sort.{Sort}
use Rattle.slots.specs.Slots.{Slot}
use Rattle.cases.specs.declared.Case.{Case}
use Rattle.cases.specs.Conditions.{Status}
use Rattle.cases.specs.Conditions.{passed, stopped}
use Rattle.cases.specs.declared.Told.{Told}
use Rattle.cases.specs.Conditions.{Condition, at, first}
use Rattle.deck.specs.DeckConditions.{conditions}
use Rattle.deck.specs.DeckCase.{case_of}
use Rattle.text.specs.declared.Row.{Row}
use Rattle.text.specs.Text.{report_line_width, lines_text}
use Rattle.scenario.specs.declared.Receptors.{Receptors}
use Rattle.scenario.specs.declared.Scenario.{Scenario}
use Rattle.scenario.specs.Scenario.{scenario_with, exact_with}
use Rattle.sheet.specs.Sheet.{large_lines}

-- a form: the rows that it prints of a scenario
abbrev pub Form : Type 0
Form = Scenario → List Row

unfoldable pub length_of : List Row → ℕ
length_of rows = report_line_width * length rows

-- ---- the conditions of document 01's table after the deck's own, for a buffer of so many bytes: 51, 42 by line
unfoldable pub too_short : List Row → ℕ → Condition
too_short rows room = at 51 0 0 (ltb room (length_of rows))

unfoldable pub form_conditions : List Row → Scenario → ℕ → List Condition
form_conditions rows scenario room = too_short rows room ∷ large_lines scenario

-- ---- what is told, and the buffer afterwards
-- success returns 0, the rows' length, 0; a refusal its number, line and field
unfoldable pub outcome_for : Status → List Row → Told
outcome_for (Ok done) rows = record { number = 0; line = length_of rows; field = 0 }
outcome_for (Err stop) rows = record { number = stop.number; line = stop.line; field = stop.field }

-- the rows, and past them what was there before; a refusal changes no byte
unfoldable pub buffer_for : Status → List Row → List ℕ → List ℕ
buffer_for (Ok done) rows buffer = lines_text rows ++ drop (length_of rows) buffer
buffer_for (Err stop) rows buffer = buffer

-- ---- A call on a deck: the sort of deck that it reads, the receptors that it makes of the case, as pairs and exactly, and the form that it prints.
pub record Call : Type 0 where
  pub sort : Sort
  pub receptors : Case → Receptors
  pub exact : Case → ℕ → Slot → Fraction
  pub form : Form

-- what a call's sheet is worked from, what demand 3 sets it against, and its rows
unfoldable pub scenario_of : Call → List ℕ → Scenario
scenario_of call deck = scenario_with (case_of deck) (call.receptors (case_of deck))

unfoldable pub exact_of : Call → List ℕ → ℕ → ℕ → Slot → Fraction
exact_of call deck = exact_with (case_of deck) (call.exact (case_of deck))

unfoldable pub rows_for : Call → List ℕ → List Row
rows_for call deck = call.form (scenario_of call deck)

-- all conditions of the table, for a deck and a buffer
unfoldable pub all_conditions : Call → List ℕ → ℕ → List Condition
all_conditions call deck room = conditions call.sort deck ++ form_conditions (rows_for call deck) (scenario_of call deck) room

-- the first of them that holds, or none
unfoldable pub status_of : Call → List ℕ → ℕ → Status
status_of call deck room = first (all_conditions call deck room)

unfoldable pub outcome_of : Call → List ℕ → ℕ → Told
outcome_of call deck room = outcome_for (status_of call deck room) (rows_for call deck)

unfoldable pub buffer_of : Call → List ℕ → List ℕ → List ℕ
buffer_of call deck buffer = buffer_for (status_of call deck (length buffer)) (rows_for call deck) buffer
