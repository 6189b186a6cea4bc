-- A sheet of a scenario in memory, by any form: where it stops and what is written. For the scenario of a deck that is read these are the call's own
-- (Forms.antt): `proofs/CallLaws.antt`.
use Rattle.std.specs.Prelude.{ℕ, List, ◌∷◌, ◌++◌, length}
use Rattle.cases.specs.Conditions.{Status}
use Rattle.cases.specs.declared.Told.{Told}
use Rattle.cases.specs.Conditions.{Condition, at, first}
use Rattle.text.specs.declared.Row.{Row}
use Rattle.sheet.specs.Counts.{miscounted, refusals, entered_conditions}
use Rattle.scenario.specs.declared.Scenario.{Scenario}
use Rattle.scenario.specs.Scenario.{scenario_conditions}
use Rattle.report.specs.Forms.{Form, too_short, outcome_for, buffer_for}

-- where a report stops: by which list
abbrev pub Road : Type 0
Road = List Row → Scenario → ℕ → List Condition

-- a scenario in memory, whatever its values are: 21, 22, then 32 and 33 by slot; 51; then 53 and 42
unfoldable pub on_memory : Road
on_memory rows scenario room = scenario_conditions scenario ++ (too_short rows room ∷ refusals scenario)

-- one whose values a deck's reading has tested, which are not tested again: 21, 51, then the sheet's own
unfoldable pub as_read : Road
as_read rows scenario room = at 21 0 0 (miscounted scenario) ∷ too_short rows room ∷ entered_conditions scenario

unfoldable pub written_status : Road → Form → Scenario → ℕ → Status
written_status road form scenario room = first (road (form scenario) scenario room)

unfoldable pub written_outcome : Road → Form → Scenario → ℕ → Told
written_outcome road form scenario room = outcome_for (written_status road form scenario room) (form scenario)

unfoldable pub written_buffer : Road → Form → Scenario → List ℕ → List ℕ
written_buffer road form scenario buffer = buffer_for (written_status road form scenario (length buffer)) (form scenario) buffer
