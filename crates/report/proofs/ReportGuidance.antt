-- A deck of 2005 prints what it printed (document 02, P6): of any call whose receptors do not hang on the year, and of the ordinary one. A deck of 2009
-- has the lines of 2009: of any call.
-- Assumes nothing.
use mathlib.Core.Path.{◌≡◌, refl, sym, ◌∙◌, ap, ap₂, subst}
use mathlib.Core.Bool.{true, cond}
use mathlib.Core.List.{List}
use Prim.Native.Nat.{ℕ, ◌≤◌, ◌*◌}
use lib.ListN.{length}
use Rattle.slots.specs.declared.Guidance.{Guidance}
use Rattle.slots.specs.declared.Guidance.TheVariants.{Of2005, Of2009}
use Rattle.slots.specs.Slots.{guidance_year, unused}
use Rattle.equations.specs.declared.Effect.{Effect}
use Rattle.equations.specs.declared.Effect.TheVariants.{Hazard, Cancer}
use Rattle.equations.specs.declared.Pathway.{Pathway}
use Rattle.equations.specs.declared.Pathway.TheVariants.{Air, SoilSummer, SoilWinter, Skin, AboveGround, BelowGround}
use Rattle.equations.specs.declared.Stay.{Stay}
use Rattle.equations.specs.Page.{AT, by_medium, by_route, reference_slot, reference, intake_line, time_in_air, time_share, air_figure_by, air_line, by_guidance, line}
use Rattle.equations.specs.Readings.{worked, paces_of, exactly}
use Rattle.cases.specs.declared.Case.{Case}
use Rattle.cases.specs.Conditions.{Status}
use Rattle.cases.specs.Conditions.{passed, stopped}
use Rattle.spelling.specs.declared.Word.TheVariants.{Blank}
use Rattle.cases.specs.Conditions.{first}
use Rattle.deck.specs.DeckConditions.{conditions, misspelled, misplaced, out_of_range, field_conditions}
use Rattle.deck.specs.DeckCase.{value_of, case_of}
use Rattle.cases.specs.Cases.{guidance_of, clear_year, case_without_year}
use Rattle.sizes.specs.Sizes.{site_lines}
use Rattle.deck.specs.Parts.{deck_line_width}
use Rattle.deck.specs.Guidance.{year_word, is2005, without_year}
use Rattle.cases.proofs.FirstMet.{or_else, first_append}
use Rattle.deck.proofs.WithoutYear.{case_without, status_without, year_printed, guidance_2005, guidance_2009, read_2009}
use Rattle.scenario.specs.declared.Receptors.{Receptors}
use Rattle.scenario.specs.declared.Scenario.{Scenario}
use Rattle.scenario.specs.Scenario.{exact_stay, scenario_from, scenario_with, stay_in, guidance_in, pairs_at}
use Rattle.sheet.specs.Sheet.{has_reference, figure_at}
use Rattle.sheet.specs.DemandThree.{in_units_of, nothing, exact_line}
use Rattle.sheet.proofs.YearLaws.{year_blank, entered_blank}
use Rattle.text.specs.declared.Row.{Row}
use Rattle.report.specs.Forms.{form_conditions, Call, scenario_of, exact_of, rows_for, all_conditions, status_of, outcome_for, outcome_of, buffer_for, buffer_of}
use Rattle.report.specs.Report.{ordinary}
use Rattle.report.specs.Guidance.{LineIs, As2005, Law2005, air2009, Law2009}
use Rattle.report.proofs.YearRows.{rows_same, conditions_same}

-- a blank year is read as a blank later slot
blank_later : (n f : ℕ) → field_conditions guidance_year Blank n f ≡ field_conditions unused Blank n f
unfolding field_conditions misspelled misplaced out_of_range
blank_later n f = refl

-- each line is the one of the guidance that the deck's year names
module _ (call : Call) (deck : List ℕ) (y : Guidance) (named : guidance_of (value_of (year_word deck)) ≡ y) where
  guidance_is : guidance_in (scenario_of call deck) ≡ y
  unfolding scenario_of scenario_with guidance_in
  guidance_is = ap guidance_of (year_printed deck) ∙ named

  line_is : (e : Effect) (j i : ℕ) (p : Pathway) → LineIs call deck e j i p (λ stay. line y e stay p)
  unfolding figure_at exact_line
  line_is e j i p =
      record {
        figure = ap (λ (z : Guidance). worked (pairs_at (scenario_of call deck) j i) (line z e (stay_in (scenario_of call deck) j) p)) guidance_is;
        exact = λ N. ap (λ (z : Guidance). cond (has_reference e (scenario_of call deck) i p) (in_units_of e (exactly N (paces_of (pairs_at (scenario_of call deck) j i)) (exact_of call deck j i) (line z e (exact_stay (exact_of call deck j i)) p))) nothing) guidance_is;
      }

module _ (call : Call) (same : (case : Case) → call.receptors (case_without_year case) ≡ call.receptors case)
    (alike : (s : Scenario) → guidance_in s ≡ Of2005 → call.form (year_blank s) ≡ call.form s) (deck : List ℕ) (long : deck_line_width * site_lines ≤ length deck) (of : is2005 (year_word deck) ≡ true) where
  made : Scenario
  made = scenario_of call deck

  guidance : guidance_in (scenario_of call deck) ≡ Of2005
  guidance = guidance_is call deck Of2005 (guidance_2005 (year_word deck) of)

  line_2005 : (e : Effect) (j i : ℕ) (p : Pathway) → LineIs call deck e j i p (λ stay. intake_line e stay p)
  unfolding line by_guidance
  line_2005 = line_is call deck Of2005 (guidance_2005 (year_word deck) of)

  scenario_is : scenario_of call (without_year deck) ≡ year_blank made
  unfolding made scenario_of scenario_with case_without_year
  scenario_is =
      ap (λ (case : Case). scenario_with case (call.receptors case)) (case_without deck long)
      ∙ ap (λ (r : Receptors). scenario_from (clear_year (case_of deck).site) (case_of deck).chemicals r) (same (case_of deck))

  rows_are : rows_for call (without_year deck) ≡ rows_for call deck
  unfolding rows_for made
  rows_are = ap call.form scenario_is ∙ alike made guidance

  status_is : (room : ℕ) → status_of call (without_year deck) room ≡ status_of call deck room
  unfolding status_of all_conditions made
  status_is room =
      let rows = rows_for call deck in
      first_append (conditions call.sort (without_year deck)) (form_conditions (rows_for call (without_year deck)) (scenario_of call (without_year deck)) room)
      ∙ ap₂ or_else (status_without call.sort deck long of)
      (ap first (ap₂ (λ (r : List Row) (s : Scenario). form_conditions r s room) rows_are scenario_is ∙ conditions_same made guidance rows room))
      ∙ sym (first_append (conditions call.sort deck) (form_conditions rows made room))

  told_2005 : (room : ℕ) → outcome_of call deck room ≡ outcome_of call (without_year deck) room
  unfolding outcome_of
  told_2005 room = sym (ap₂ outcome_for (status_is room) rows_are)

  written_2005 : (buffer : List ℕ) → buffer_of call deck buffer ≡ buffer_of call (without_year deck) buffer
  unfolding buffer_of
  written_2005 buffer = sym (ap₂ (λ (x : Status) (rows : List Row). buffer_for x rows buffer) (status_is (length buffer)) rows_are)

  as_2005 : As2005 call deck
  as_2005 = record { line = line_2005; told = told_2005; written = written_2005; blank = blank_later }

pub law_2005_of : (call : Call) → ((case : Case) → call.receptors (case_without_year case) ≡ call.receptors case)
    → ((s : Scenario) → guidance_in s ≡ Of2005 → call.form (year_blank s) ≡ call.form s) → Law2005 call
unfolding Law2005
law_2005_of call same alike deck long of = as_2005 call same alike deck long of

pub law_2005 : Law2005 ordinary
unfolding ordinary
law_2005 = law_2005_of ordinary entered_blank rows_same

-- ---- a deck of 2009
air_formula : (e : Effect) (stay : Stay) → line Of2009 e stay Air ≡ air2009 e
unfolding line by_guidance by_route by_medium air_line air_figure_by time_share time_in_air AT reference reference_slot air2009
air_formula Hazard stay = refl
air_formula Cancer stay = refl

other_formula : (e : Effect) (stay : Stay) (p : Pathway) → (p ≡ Air → ⊥) → line Of2009 e stay p ≡ intake_line e stay p
unfolding line by_guidance by_route by_medium
other_formula e stay Air h = absurd (h refl)
other_formula e stay SoilSummer h = refl
other_formula e stay SoilWinter h = refl
other_formula e stay Skin h = refl
other_formula e stay AboveGround h = refl
other_formula e stay BelowGround h = refl

pub law_2009_of : (call : Call) → Law2009 call
unfolding Law2009
law_2009_of call deck of =
    let lines = line_is call deck Of2009 (guidance_2009 (year_word deck) of) in
    record {
      air = λ e j i. subst (LineIs call deck e j i Air) (λ k stay. air_formula e stay k) (lines e j i Air);
      other = λ e j i p h. subst (LineIs call deck e j i p) (λ k stay. other_formula e stay p h k) (lines e j i p);
      year = λ n f. read_2009 (year_word deck) n f of;
    }

pub law_2009 : Law2009 ordinary
law_2009 = law_2009_of ordinary
