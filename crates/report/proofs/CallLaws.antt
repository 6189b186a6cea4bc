-- The report calls: what they answer and leave in the buffer is what the definitions say. First the call on a scenario in memory, stage by
-- stage; then any call on a deck that hands it a sound scenario. Assumes nothing.
use Rattle.cases.specs.declared.Stop.{Stop}
use Rattle.std.specs.Prelude.{Ok, Err}
use mathlib.Core.Path.{◌≡◌, refl, sym, ap, ◌∙◌}
use mathlib.Core.Bool.{Bool, true, false, cond}
use mathlib.Core.List.{List, ◌++◌}
use Prim.Native.Nat.{ℕ, ◌≤◌, ◌<◌}
use borrow.Author.Tests.{lt-ltb, le-ltb}
use lib.Dec.{ltb}
use lib.ListN.{length, drop}
use Rattle.cases.specs.declared.Case.{Case}
use Rattle.cases.specs.declared.Told.{Told}
use Rattle.cases.specs.Conditions.{Status, passed, stopped, Condition, first, told_of}
use Rattle.deck.specs.DeckConditions.{conditions}
use Rattle.deck.specs.DeckCase.{Reading, case_of, read_of}
use Rattle.deck.proofs.ReadLaws.{read_ok}
use Rattle.cases.proofs.FirstMet.{or_else, first_append, first_read, append_read}
use Rattle.text.specs.declared.Row.{Row}
use Rattle.text.specs.Text.{lines_text}
use Rattle.scenario.specs.declared.Scenario.{Scenario}
use Rattle.scenario.specs.Scenario.{scenario_with, Exact, scenario_conditions}
use Rattle.scenario.specs.declared.Receptors.{Receptors}
use Rattle.sheet.specs.Sheet.{refused_lines, large_lines, faulty_lines}
use Rattle.sheet.specs.Counts.{miscounted, unmade, entered_conditions, refusals, sheet_conditions, cells_of, cells_for, conditions_by, status_by, cells_by}
use Rattle.report.specs.Forms.{Form, length_of, too_short, form_conditions, Call, scenario_of, exact_of, rows_for, all_conditions, status_of, outcome_for, outcome_of, buffer_for, buffer_of}
use Rattle.report.specs.InMemory.{Road, on_memory, as_read, written_status, written_outcome, written_buffer}
use Rattle.report.specs.Inner.{from_room}
use Rattle.scenario.proofs.Sound.{Sound}
use Rattle.sheet.proofs.SheetCaseLaws.{few_records, conditions_agree}
use Rattle.sheet.proofs.FaultLaws.{faulty_clear}

-- ---- two lists of conditions, one after the other
stays : (s : Status) (halt : Stop) (t : Status) → s ≡ Err halt → s ≡ or_else s t
unfolding or_else
stays s halt t e = e ∙ sym (ap (λ (x : Status). or_else x t) e)

first_stops : (xs ys : List Condition) (s : Status) (halt : Stop) → s ≡ first xs → s ≡ Err halt → s ≡ first (xs ++ ys)
first_stops xs ys s halt e q =
    stays s halt (first ys) q ∙ ap (λ (x : Status). or_else x (first ys)) e ∙ sym (first_append xs ys)

first_passes : (xs ys : List Condition) (s : Status) → first xs ≡ passed → s ≡ first ys → s ≡ first (xs ++ ys)
unfolding or_else
first_passes xs ys s e q = q ∙ sym (first_append xs ys ∙ ap (λ (x : Status). or_else x (first ys)) e)

-- ---- a road, a form, a scenario and a buffer
module _ (road : Road) (form : Form) (scenario : Scenario) (buffer : List ℕ) where
  -- what is told, and the buffer then
  abbrev pub Answered : Told → List ℕ → Type 0
  Answered told out = (told ≡ written_outcome road form scenario (length buffer)) × (out ≡ written_buffer road form scenario buffer)

  refused : (s : Status) (halt : Stop) (told : Told) → s ≡ written_status road form scenario (length buffer) → s ≡ Err halt → told ≡ told_of s → Answered told buffer
  unfolding told_of written_outcome outcome_for written_buffer buffer_for
  refused s halt told e q t = (t ∙ rw (← e, q) refl, rw (← e, q) refl)

  -- the rows are made from cells
  rows_written : written_status road form scenario (length buffer) ≡ passed → (cells : List ℕ) → cells ≡ cells_of scenario → (from : List ℕ → List Row) → (written_status road form scenario (length buffer) ≡ passed → form scenario ≡ from (cells_of scenario))
      → (out : List ℕ) (n : ℕ) → n ≡ length_of (form scenario) → out ≡ lines_text (from cells) ++ drop (length_of (form scenario)) buffer → Answered (record { number = 0; line = n; field = 0 }) out
  unfolding written_outcome outcome_for written_buffer buffer_for
  rows_written s cells cells_are from made out n m o =
      (rw (s, m) refl, rw s (o ∙ ap (λ (rows : List Row). lines_text rows ++ drop (length_of (form scenario)) buffer) (ap from cells_are ∙ sym (made s))))

refusal : (number : ℕ) (told : Told) → (told.number ≡ number) × (told.line ≡ 0) × (told.field ≡ 0) → told ≡ told_of (stopped number 0 0)
unfolding told_of
refusal number told e = λ i. record { number = e.0 i; line = e.1 i; field = e.2 i }

-- ---- from 51 on
module _ (tested : Bool) (form : Form) (scenario : Scenario) (buffer : List ℕ) where
  -- 51
  pub too_short_lem : length buffer < length_of (form scenario) → (told : Told) → (told.number ≡ 51) × (told.line ≡ 0) × (told.field ≡ 0) → Answered (from_room tested) form scenario buffer told buffer
  unfolding written_status from_room too_short first
  too_short_lem h told t = refused (from_room tested) form scenario buffer (stopped 51 0 0) _ told (rw (lt-ltb _ _ h) refl) refl (refusal 51 told t)

  -- the report has room
  module _ (room : length_of (form scenario) ≤ length buffer) (status : Status) (is_status : status ≡ status_by tested scenario) where
    status_is : status ≡ written_status (from_room tested) form scenario (length buffer)
    unfolding written_status from_room too_short first status_by
    status_is = is_status ∙ rw (le-ltb _ _ room) refl

    -- the sheet stops
    pub sheet_stops : (halt : Stop) (told : Told) → status ≡ Err halt → told ≡ told_of status → Answered (from_room tested) form scenario buffer told buffer
    sheet_stops halt told q t = refused (from_room tested) form scenario buffer status halt told status_is q t

    -- and the report is written
    pub written : status ≡ passed → (cells : List ℕ) → cells ≡ cells_by tested scenario → (from : List ℕ → List Row) → (written_status (from_room tested) form scenario (length buffer) ≡ passed → form scenario ≡ from (cells_of scenario)) → (out : List ℕ) (n : ℕ) → n ≡ length_of (form scenario)
        → out ≡ lines_text (from cells) ++ drop (length_of (form scenario)) buffer → Answered (from_room tested) form scenario buffer (record { number = 0; line = n; field = 0 }) out
    unfolding cells_by cells_for
    written none cells held = rows_written (from_room tested) form scenario buffer (sym status_is ∙ none) cells (held ∙ ap (λ (x : Status). cells_for x scenario) (sym is_status ∙ none))

-- where it is written, 53 and 42 hold of no line
clear_by : (tested : Bool) (scenario : Scenario) → first (conditions_by tested scenario) ≡ passed → (first (refused_lines scenario) ≡ passed) × (first (large_lines scenario) ≡ passed)
unfolding conditions_by entered_conditions sheet_conditions refusals
clear_by true scenario e =
    let b = (first_read _ _ (first_read _ _ e).1).1 in
    faulty_clear scenario (append_read (unmade scenario) (faulty_lines scenario) b).1
clear_by false scenario e =
    let b = (first_read _ _ (append_read (scenario_conditions scenario) _ e).1).1 in
    append_read (refused_lines scenario) (large_lines scenario) (append_read (unmade scenario) (refused_lines scenario ++ large_lines scenario) b).1

pub written_clear : (tested : Bool) (form : Form) (scenario : Scenario) (room : ℕ) → written_status (from_room tested) form scenario room ≡ passed → (first (refused_lines scenario) ≡ passed) × (first (large_lines scenario) ≡ passed)
unfolding written_status from_room
written_clear tested form scenario room e = clear_by tested scenario (first_read _ _ e).1

-- ---- the tests before it
module _ (form : Form) (scenario : Scenario) (buffer : List ℕ) where
  -- a road that goes on as another
  same_road : (r s : Road) → written_status r form scenario (length buffer) ≡ written_status s form scenario (length buffer) → (told : Told) (out : List ℕ) → Answered s form scenario buffer told out → Answered r form scenario buffer told out
  unfolding written_outcome written_buffer
  same_road r s e told out a =
      (a.0 ∙ ap (λ (x : Status). outcome_for x (form scenario)) (sym e), a.1 ∙ ap (λ (x : Status). buffer_for x (form scenario) buffer) (sym e))

  -- 21 of values that were tested where they were read
  pub miscount : miscounted scenario ≡ true → (told : Told) → (told.number ≡ 21) × (told.line ≡ 0) × (told.field ≡ 0) → Answered as_read form scenario buffer told buffer
  unfolding written_status as_read first
  miscount h told t = refused as_read form scenario buffer (stopped 21 0 0) _ told (rw h refl) refl (refusal 21 told t)

  pub counted : miscounted scenario ≡ false → (told : Told) (out : List ℕ) → Answered (from_room true) form scenario buffer told out → Answered as_read form scenario buffer told out
  unfolding written_status as_read from_room conditions_by first
  counted h = same_road as_read (from_room true) (rw h refl)

  -- 21, 22, 32, 33 of a scenario in memory, whatever its values are
  pub memory_stops : (number : ℕ) → stopped number 0 0 ≡ first (scenario_conditions scenario) → (told : Told) → (told.number ≡ number) × (told.line ≡ 0) × (told.field ≡ 0) → Answered on_memory form scenario buffer told buffer
  unfolding written_status on_memory
  memory_stops number is_first told t =
      refused on_memory form scenario buffer (stopped number 0 0) _ told (first_stops (scenario_conditions scenario) _ (stopped number 0 0) _ is_first refl) refl (refusal number told t)

  pub memory_passes : passed ≡ first (scenario_conditions scenario) → (told : Told) (out : List ℕ) → Answered (from_room false) form scenario buffer told out → Answered on_memory form scenario buffer told out
  unfolding written_status on_memory from_room too_short conditions_by sheet_conditions first
  memory_passes passes =
      same_road on_memory (from_room false)
      (sym (first_passes (scenario_conditions scenario) _ _ (sym passes) refl)
      ∙ ap (cond (ltb (length buffer) (length_of (form scenario))) (stopped 51 0 0)) (first_passes (scenario_conditions scenario) (refusals scenario) (first (refusals scenario)) (sym passes) refl))

-- ---- a sound scenario: its list is the call's
status_agrees : (form : Form) (scenario : Scenario) {exact : Exact} → Sound scenario exact → (room : ℕ) → written_status as_read form scenario room ≡ first (form_conditions (form scenario) scenario room)
unfolding written_status as_read form_conditions too_short first
status_agrees form scenario sound room = rw (few_records scenario sound, conditions_agree scenario sound) refl

-- ---- any call on a deck
module _ (call : Call) (deck buffer : List ℕ) where
  -- the deck stops
  pub deck_stops : (s : Status) (halt : Stop) (told : Told) → s ≡ first (conditions call.sort deck) → s ≡ Err halt → told ≡ told_of s
      → (told ≡ outcome_of call deck (length buffer)) × (buffer ≡ buffer_of call deck buffer)
  unfolding status_of all_conditions told_of outcome_of outcome_for buffer_of buffer_for
  deck_stops s halt told e q t =
      let f : s ≡ status_of call deck (length buffer) = first_stops (conditions call.sort deck) (form_conditions (rows_for call deck) (scenario_of call deck) (length buffer)) s halt e q in
      (t ∙ rw (← f, q) refl, rw (← f, q) refl)

  -- the deck is read, and its scenario handed to the call above
  module _ (case : Case) (of_deck : ◌≡◌ {A = Reading} (Ok case) (read_of call.sort deck)) where
    pub deck_read : first (conditions call.sort deck) ≡ passed
    deck_read = (read_ok call.sort deck case of_deck).0

    pub case_is : case ≡ case_of deck
    case_is = (read_ok call.sort deck case of_deck).1

    pub answers : Sound (scenario_of call deck) (exact_of call deck) → (receptors' : Receptors) → receptors' ≡ call.receptors case
        → (told : Told) (out : List ℕ) → told ≡ written_outcome as_read call.form (scenario_with case receptors') (length buffer) → out ≡ written_buffer as_read call.form (scenario_with case receptors') buffer
        → (told ≡ outcome_of call deck (length buffer)) × (out ≡ buffer_of call deck buffer)
    unfolding written_outcome written_buffer outcome_of buffer_of status_of all_conditions scenario_of rows_for
    answers sound receptors' made told out t o =
        let scenario = scenario_of call deck in
        let form = call.form in
        let same : scenario_with case receptors' ≡ scenario = ap (scenario_with case) made ∙ ap (λ (c : Case). scenario_with c (call.receptors c)) case_is in
        let here : first (form_conditions (form scenario) scenario (length buffer)) ≡ status_of call deck (length buffer) =
        first_passes (conditions call.sort deck) (form_conditions (form scenario) scenario (length buffer)) _ deck_read refl
        in
        let agreed : written_status as_read form scenario (length buffer) ≡ status_of call deck (length buffer) = status_agrees form scenario sound (length buffer) ∙ here in (
          t ∙ ap (λ (x : Scenario). written_outcome as_read form x (length buffer)) same ∙ ap (λ (s : Status). outcome_for s (form scenario)) agreed,
          o ∙ ap (λ (x : Scenario). written_buffer as_read form x buffer) same ∙ ap (λ (s : Status). buffer_for s (form scenario) buffer) agreed,
        )
