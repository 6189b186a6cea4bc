-- The rooms that a program lends are large enough: 51 is never told, and input past the deck's room changes nothing. Assumes nothing.
use Rattle.cases.specs.declared.Stop.{Stop}
use Rattle.std.specs.Prelude.{Ok, Err}
use mathlib.Core.Path.{◌≡◌, refl, sym, ap, ◌∙◌}
use mathlib.Core.Bool.{Bool, true, false}
use mathlib.Core.List.{List}
use mathlib.Core.Logic.{◌≢◌}
use Prim.Native.Nat.{ℕ, ◌+◌, ◌*◌, ◌≤◌, ◌<◌}
use native.Mathlib.Nat.{mul-le-mul, mul-le-mul_left}
use native.Mathlib.Omega.{arith}
use borrow.Author.Tests.{lt-ltb, le-ltb, ne_eqb, ltb-true, ltb-false}
use lib.Dec.{ltb, lit<}
use lib.ListN.{length, take}
use lib.Seq.{take_all, length-take-le}
use Rattle.cases.specs.declared.Case.{Case}
use Rattle.cases.specs.Conditions.{Status}
use Rattle.cases.specs.Conditions.{passed, stopped}
use Rattle.cases.specs.Conditions.{first, told_of}
use Rattle.cases.proofs.FirstMet.{or_else, first_append, told_without}
use Rattle.deck.specs.DeckConditions.{bad_length, conditions, max_length}
use Rattle.deck.proofs.DeckWithout.{deck_without}
use Rattle.sizes.specs.Sizes.{most_receptors, most_lines}
use Rattle.text.specs.Text.{report_line_width}
use Rattle.sheet.specs.Sheet.{lines_per_receptor, large_lines}
use Rattle.sheet.proofs.SheetWithout.{large_without}
use Rattle.report.specs.DemandTwo.{Entered}
use Rattle.report.specs.Forms.{Form, length_of, too_short, form_conditions, Call, scenario_of, rows_for, all_conditions, status_of, outcome_for, outcome_of, buffer_for, buffer_of}
use Rattle.report.specs.Report.{ordinary}
use Rattle.report.specs.Rooms.{deck_room, longest_for, longest_report, Rooms}
use Rattle.report.proofs.ReportLaws.{report_length_lem}
use Rattle.report.proofs.DemandTwo.{Sounds, ordinary_sounds}
use Rattle.report.proofs.ReportNever.{same_number}

-- ---- a deck that is too long
module _ (call : Call) where
  long_bad : (deck : List ℕ) → max_length call.sort < length deck → bad_length call.sort deck ≡ true
  unfolding bad_length
  long_bad deck h = rw (ne_eqb (length deck) 0 (λ e. omega arith), lt-ltb (max_length call.sort) (length deck) h) refl

  long_status : (deck : List ℕ) (room : ℕ) → max_length call.sort < length deck → status_of call deck room ≡ stopped 11 0 0
  unfolding status_of all_conditions conditions first
  long_status deck room h = rw (long_bad deck h) refl

  long_told : (deck : List ℕ) (room : ℕ) → max_length call.sort < length deck → outcome_of call deck room ≡ record { number = 11; line = 0; field = 0 }
  unfolding outcome_of outcome_for
  long_told deck room h = rw (long_status deck room h) refl

  long_kept : (deck buffer : List ℕ) → max_length call.sort < length deck → buffer_of call deck buffer ≡ buffer
  unfolding buffer_of buffer_for
  long_kept deck buffer h = rw (long_status deck (length buffer) h) refl

  -- ---- input that is cut at the deck's room: as it was, or too long still
  cut_if : {A : Type 0} (f : List ℕ → A) (a : A) → ((deck : List ℕ) → max_length call.sort < length deck → f deck ≡ a)
      → (input : List ℕ) (b : Bool) → ltb (max_length call.sort) (length input) ≡ b → f (take (deck_room call.sort) input) ≡ f input
  cut_if f a long input true e =
      let h = ltb-true (max_length call.sort) (length input) e in
      let still : max_length call.sort < length (take (deck_room call.sort) input) = rw (length-take-le (deck_room call.sort) input (omega arith)) (omega arith) in
      long (take (deck_room call.sort) input) still ∙ sym (long input h)
  cut_if f a long input false e = ap f (take_all (deck_room call.sort) input (omega (arith, ltb-false (max_length call.sort) (length input) e)))

-- ---- a call that prints the report of so many receptors at most
module _ (call : Call) (Made : Case → Type 0) (sounds : Sounds call Made) (most : ℕ)
    (few : (deck : List ℕ) → first (conditions call.sort deck) ≡ passed → (scenario_of call deck).receptors.count ≤ most) where
  fits : (deck : List ℕ) → first (conditions call.sort deck) ≡ passed → length_of (rows_for call deck) ≤ longest_for most
  unfolding length_of rows_for lines_per_receptor
  fits deck e =
      let scenario = scenario_of call deck in
      let lines : lines_per_receptor scenario ≤ most_lines + 1 = omega (arith, (sounds.sound deck e).few_chemicals) in
      let rows : length (call.form scenario) ≡ scenario.receptors.count * lines_per_receptor scenario = ap (λ (form : Form). length (form scenario)) sounds.form ∙ report_length_lem scenario in
      mul-le-mul_left report_line_width (rw rows (mul-le-mul (few deck e) lines))

  -- where the deck is read, only 42 is left
  read_status : (deck : List ℕ) → first (conditions call.sort deck) ≡ passed → status_of call deck (longest_for most) ≡ first (large_lines (scenario_of call deck))
  unfolding status_of all_conditions form_conditions too_short first or_else
  read_status deck e =
      first_append (conditions call.sort deck) (form_conditions (rows_for call deck) (scenario_of call deck) (longest_for most))
      ∙ ap (λ (s : Status). or_else s (first (form_conditions (rows_for call deck) (scenario_of call deck) (longest_for most)))) e
      ∙ rw (le-ltb (longest_for most) (length_of (rows_for call deck)) (fits deck e)) refl

  stopped_status : (deck : List ℕ) (halt : Stop) → first (conditions call.sort deck) ≡ Err halt
      → status_of call deck (longest_for most) ≡ first (conditions call.sort deck)
  unfolding status_of all_conditions or_else
  stopped_status deck halt e =
      first_append (conditions call.sort deck) (form_conditions (rows_for call deck) (scenario_of call deck) (longest_for most))
      ∙ ap (λ (s : Status). or_else s (first (form_conditions (rows_for call deck) (scenario_of call deck) (longest_for most)))) e
      ∙ sym e

  never_if : (deck : List ℕ) (s : Status) → first (conditions call.sort deck) ≡ s → (told_of (status_of call deck (longest_for most))).number ≢ 51
  never_if deck (Ok done) e =
      rw (read_status deck e) (told_without 51 (λ z. omega arith) (large_lines (scenario_of call deck)) (large_without 51 (λ z. omega arith) (scenario_of call deck)))
  never_if deck (Err halt) e =
      rw (stopped_status deck halt e) (told_without 51 (λ z. omega arith) (conditions call.sort deck) (deck_without 51 (lit< tt) call.sort deck))

  pub rooms_of : Rooms call (longest_for most)
  unfolding outcome_of
  rooms_of =
      record {
        never_51 = λ deck. rw (same_number (status_of call deck (longest_for most)) (rows_for call deck)) (never_if deck _ refl);
        too_long = long_told call;
        told = λ input room. cut_if call (λ deck. outcome_of call deck room) _ (λ deck. long_told call deck room) input _ refl;
        written = λ input buffer. cut_if call (λ deck. buffer_of call deck buffer) buffer (λ deck. long_kept call deck buffer) input _ refl;
      }

pub rooms : Rooms ordinary longest_report
rooms = rooms_of ordinary Entered ordinary_sounds most_receptors (λ deck e. (ordinary_sounds.sound deck e).few_receptors)
