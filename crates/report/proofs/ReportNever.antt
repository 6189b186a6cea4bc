-- No call on a deck tells 41, nor do the calls on a scenario in memory. Assumes nothing.
use Rattle.std.specs.Prelude.{Ok, Err}
use Prim.Native.Nat.{ℕ}
use native.Mathlib.Omega.{arith}
use mathlib.Core.Path.{◌≡◌, refl}
use mathlib.Core.List.{List}
use mathlib.Core.Logic.{◌≢◌}
use lib.Dec.{lit<}
use Rattle.cases.specs.Conditions.{Status}
use Rattle.cases.specs.Conditions.{passed, stopped}
use Rattle.cases.specs.Conditions.{Condition, Without, first, told_of}
use Rattle.deck.specs.DeckConditions.{conditions}
use Rattle.cases.proofs.FirstMet.{without_append, told_without}
use Rattle.deck.proofs.DeckWithout.{deck_without}
use Rattle.scenario.specs.declared.Scenario.{Scenario}
use Rattle.scenario.specs.Scenario.{scenario_conditions}
use Rattle.sheet.proofs.SheetWithout.{large_without, scenario_without, refusals_without, entered_without}
use Rattle.text.specs.declared.Row.{Row}
use Rattle.report.specs.Forms.{Form, too_short, form_conditions, Call, scenario_of, rows_for, all_conditions, status_of, outcome_for, outcome_of}
use Rattle.report.specs.InMemory.{on_memory, as_read, written_status, written_outcome}

pub same_number : (s : Status) (rows : List Row) → (outcome_for s rows).number ≡ (told_of s).number
unfolding outcome_for told_of
same_number (Ok done) rows = refl
same_number (Err stop) rows = refl

outcome_without : (cs : List Condition) (rows : List Row) → Without 41 cs → (outcome_for (first cs) rows).number ≢ 41
outcome_without cs rows h = rw (same_number (first cs) rows) (told_without 41 (λ e. omega arith) cs h)

form_without : (rows : List Row) (scenario : Scenario) (room : ℕ) → Without 41 (form_conditions rows scenario room)
unfolding form_conditions too_short
form_without rows scenario room = (λ e. omega arith, large_without 41 (λ e. omega arith) scenario)

-- no condition of a call's list has this number
pub conditions_without : (call : Call) (deck : List ℕ) (room : ℕ) → Without 41 (all_conditions call deck room)
unfolding all_conditions
conditions_without call deck room =
    without_append 41 (conditions call.sort deck) (form_conditions (rows_for call deck) (scenario_of call deck) room) (deck_without 41 (lit< tt) call.sort deck)
    (form_without (rows_for call deck) (scenario_of call deck) room)

pub report_never : (call : Call) (deck : List ℕ) (room : ℕ) → (outcome_of call deck room).number ≢ 41
unfolding outcome_of status_of
report_never call deck room = outcome_without (all_conditions call deck room) (rows_for call deck) (conditions_without call deck room)

pub written_never : (form : Form) (scenario : Scenario) (room : ℕ) → (written_outcome on_memory form scenario room).number ≢ 41
unfolding written_outcome written_status on_memory too_short
written_never form scenario room =
    outcome_without (on_memory (form scenario) scenario room) (form scenario) (without_append 41 (scenario_conditions scenario) _ (scenario_without scenario) (λ e. omega arith, refusals_without scenario))

pub entered_never : (form : Form) (scenario : Scenario) (room : ℕ) → (written_outcome as_read form scenario room).number ≢ 41
unfolding written_outcome written_status as_read too_short
entered_never form scenario room =
    outcome_without (as_read (form scenario) scenario room) (form scenario) (λ e. omega arith, (λ e. omega arith, entered_without scenario))
