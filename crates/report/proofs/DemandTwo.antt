-- Demands 1 and 2 of document 01: the report or the first refusal, for every deck and buffer. Assumes nothing.
use Rattle.cases.specs.declared.Stop.{Stop}
use Rattle.std.specs.Prelude.{Ok, Err}
use mathlib.Core.Path.{◌≡◌, refl, sym, ap, ◌∙◌, subst}
use mathlib.Core.Bool.{Bool, true, false, cond}
use mathlib.Core.List.{List, [], ◌∷◌, ◌++◌, append_assoc}
use mathlib.Core.Logic.{◌⊎◌, inl, inr}
use Prim.Native.Nat.{ℕ, ◌+◌, ◌*◌, ◌-◌, ◌^◌, ◌<◌}
use native.Mathlib.Omega.{arith}
use lib.IntN.{ℤ}
use lib.ListN.{length, take, drop, length-append}
use lib.Seq.{take_at, drop_at}
use Rattle.pair.specs.Calls.{is, entry, one_minus_entry}
use Rattle.slots.specs.declared.Sort.{Sort}
use Rattle.slots.specs.declared.Sort.TheVariants.{Ordinary}
use Rattle.slots.specs.Slots.{Slot, place_of, at_most_one}
use Rattle.cases.specs.declared.Case.{Case}
use Rattle.cases.specs.Conditions.{Status}
use Rattle.cases.specs.Conditions.{passed, stopped}
use Rattle.cases.specs.Conditions.{Condition, first, NoneHolds}
use Rattle.deck.specs.DeckConditions.{conditions}
use Rattle.cases.specs.declared.Value.TheVariants as Values
use Rattle.deck.specs.Parts.{lines_of}
use Rattle.deck.specs.DeckCase.{case_with, case_of}
use Rattle.cases.specs.Cases.{value_at, chemical_at, receptor_at}
use Rattle.cases.specs.Ranged.{Ranged}
use Rattle.deck.proofs.Accepted.{accepted}
use Rattle.cases.proofs.FirstMet.{read_none, never, first_read, append_read}
use Rattle.text.specs.declared.Row.{Row}
use Rattle.sizes.specs.Sizes.{site_lines, record_lines, pathways_per_chemical}
use Rattle.spelling.specs.Columns.{id_width}
use Rattle.text.specs.Text.{report_line_width, row_text, lines_text}
use Rattle.text.proofs.Rows.{length_row, length_lines, lines_append}
use Rattle.scenario.specs.declared.Receptor as receptors
use Rattle.scenario.specs.declared.Receptors.{Receptors}
use Rattle.scenario.specs.declared.Scenario.{Scenario}
use Rattle.scenario.specs.Scenario.{chemical_in, receptor_in, stay_in, given_in, pairs_at, time_given, deposition_of, receptor_with, scenario_with, entered, entered_from, ordinary_of, exact_at, Exact}
use Rattle.sheet.specs.Sheet.{lines_per_receptor, large_lines}
use Rattle.lists.specs.Lists.{chained}
use Rattle.report.specs.Forms.{Form, length_of, too_short, form_conditions, Call, scenario_of, exact_of, rows_for, all_conditions, status_of, outcome_for, outcome_of, buffer_for, buffer_of}
use Rattle.report.specs.Report.{row_at, total_row, rows_at, rows_of, ordinary}
use Rattle.report.specs.DemandTwo.{line_in, Printed, Reported, Refused, Demand2, Exposed, Entered}
use Rattle.sheet.proofs.SheetCaseLaws.{line_by_rule}
use Rattle.scenario.proofs.Sound.{Sound}
use Rattle.scenario.proofs.InputLaws.{source_entered, source_rested}
use Rattle.scenario.proofs.DepositionLaws.{deposition_told}
use Rattle.scenario.proofs.Entered.{entered_at, exposure_told, own_id, ordinary_sound, receptor_entered}
use Rattle.report.proofs.ReportLaws.{lines, lines_many, lines_all, rows_length}
use Rattle.report.proofs.Exposures.{exposed}
use Rattle.lists.proofs.Chained.{chained_split, chained_length}
use Rattle.deck.proofs.DeckIds.{small_ids, chemical_named, receptor_named}
use Rattle.deck.proofs.LinePlaces.{all_lines}
use Rattle.report.proofs.Fitting.{SmallIds, row_fits, total_row_fits}

-- ---- the first condition that holds
record Met (cs : List Condition) (halt : Stop) : Type 0 where
  before : List Condition
  met : Condition
  after : List Condition
  order : cs ≡ before ++ (met ∷ after)
  none : NoneHolds before
  holds : met.holds ≡ true
  told : Err halt ≡ stopped met.number met.line met.field

met_here : (c : Condition) (cs : List Condition) (halt : Stop) (b : Bool) → c.holds ≡ b
    → (cond b (stopped c.number c.line c.field) (first cs) ≡ Err halt)
    → (first cs ≡ Err halt → Met cs halt) → Met (c ∷ cs) halt
met_here c cs halt true h e later = record { before = []; met = c; after = cs; order = refl; none = tt; holds = h; told = sym e }
met_here c cs halt false h e later =
    let m : Met cs halt = later e in
    record { before = c ∷ m.before; met = m.met; after = m.after; order = ap (λ (l : List Condition). c ∷ l) m.order; none = (h, m.none); holds = m.holds; told = m.told }

stopped_met : (cs : List Condition) (halt : Stop) → first cs ≡ Err halt → Met cs halt
unfolding first
stopped_met [] halt e = absurd (never (Err halt) halt refl (sym e))
stopped_met (c ∷ cs) halt e = met_here c cs halt c.holds refl e (stopped_met cs halt)

refused : (call : Call) (deck buffer : List ℕ) (halt : Stop) → status_of call deck (length buffer) ≡ Err halt → Refused call deck buffer
unfolding status_of outcome_of outcome_for buffer_of buffer_for
refused call deck buffer halt e =
    let m : Met (all_conditions call deck (length buffer)) halt = stopped_met (all_conditions call deck (length buffer)) halt e in
    record {
      before = m.before;
      met = m.met;
      after = m.after;
      order = m.order;
      none = m.none;
      holds = m.holds;
      told = ap (λ (s : Status). outcome_for s (rows_for call deck)) (e ∙ m.told);
      same = ap (λ (s : Status). buffer_for s (rows_for call deck) buffer) e;
    }

-- ---- where a row stands among rows, and its line in their text
record At (rows : List Row) (l : ℕ) (row : Row) : Type 0 where
  before : List Row
  after : List Row
  split : rows ≡ before ++ (row ∷ after)
  place : length before ≡ l

at_line : (rows : List Row) (l : ℕ) (row : Row) (rest : List ℕ) → At rows l row → line_in (lines_text rows ++ rest) l ≡ row_text row
unfolding line_in lines_text
at_line rows l row rest a =
    let text : lines_text rows ++ rest ≡ lines_text a.before ++ (row_text row ++ (lines_text a.after ++ rest)) =
    ap (λ (r : List Row). lines_text r ++ rest) a.split
    ∙ ap (λ (t : List ℕ). t ++ rest) (lines_append a.before (row ∷ a.after))
    ∙ append_assoc (lines_text a.before) (row_text row ++ lines_text a.after) rest
    ∙ ap (λ (t : List ℕ). lines_text a.before ++ t) (append_assoc (row_text row) (lines_text a.after) rest)
    in
    let long : length (lines_text a.before) ≡ report_line_width * l = length_lines a.before ∙ ap (λ (n : ℕ). report_line_width * n) a.place in
    ap (λ (t : List ℕ). take report_line_width (drop (report_line_width * l) t)) text
    ∙ ap (take report_line_width) (drop_at (lines_text a.before) (row_text row ++ (lines_text a.after ++ rest)) (report_line_width * l) long)
    ∙ take_at (row_text row) (lines_text a.after ++ rest) report_line_width (length_row row)

-- before other rows, and after some
at_before : (ys zs : List Row) (l : ℕ) (row : Row) → At ys l row → At (ys ++ zs) l row
at_before ys zs l row a =
    record {
      before = a.before;
      after = a.after ++ zs;
      split = ap (λ (r : List Row). r ++ zs) a.split ∙ append_assoc a.before (row ∷ a.after) zs;
      place = a.place;
    }

at_after : (xs ys : List Row) (k l : ℕ) (row : Row) → length xs ≡ k → At ys l row → At (xs ++ ys) (k + l) row
at_after xs ys k l row h a =
    record {
      before = xs ++ a.before;
      after = a.after;
      split = ap (λ (r : List Row). xs ++ r) a.split ∙ sym (append_assoc xs a.before (row ∷ a.after));
      place = length-append xs a.before ∙ omega (arith, h, a.place);
    }

-- in part k of a chain whose parts have m rows each
at_part : (f : ℕ → List Row) (n m k l : ℕ) (row : Row) → k < n → ((i : ℕ) → length (f i) ≡ m) → At (f k) l row → At (chained f n) (k * m + l) row
at_part f n m k l row h same a =
    subst (λ (rows : List Row). At rows (k * m + l) row) (sym (chained_split f n k h))
    (at_after (chained f k) (f k ++ chained (λ j. f (k + 1 + j)) (n - (k + 1))) (k * m) l row (chained_length f k m same)
    (at_before (f k) (chained (λ j. f (k + 1 + j)) (n - (k + 1))) l row a))

alone : (row : Row) → At (row ∷ []) 0 row
alone row = record { before = []; after = []; split = refl; place = refl }

-- ---- what is printed of the site and of the chemicals is entered
record Sources (scenario : Scenario) : Type 0 where
  entered : (j i : ℕ) → i < scenario.chemicals.count → (s : Slot) (digits : ℕ) (power : ℤ)
      → given_in scenario i s ≡ Values.Given power digits → entry digits power ≡ is ((pairs_at scenario j i).value s)
  rested : (j i : ℕ) → i < scenario.chemicals.count → (s : Slot) (digits : ℕ) (power : ℤ)
      → given_in scenario i s ≡ Values.Given power digits → at_most_one s ≡ true → one_minus_entry digits power ≡ is ((pairs_at scenario j i).rest s)

sources_of_lem : (sort : Sort) (case : Case) → Ranged sort case → (receptors' : Receptors) → Sources (scenario_with case receptors')
unfolding scenario_with
sources_of_lem sort case ranged receptors' =
    record { entered = λ j i h s digits power e. source_entered sort case ranged receptors' j i h s digits power e; rested = λ j i h s digits power e. source_rested sort case ranged receptors' j i h s digits power e }

-- ---- the report of a scenario
module _ (scenario : Scenario) where
  line_at : (j i p : ℕ) → j < scenario.receptors.count → i < scenario.chemicals.count → p < pathways_per_chemical → At (rows_of scenario) (j * lines_per_receptor scenario + (i * pathways_per_chemical + (p * 1 + 0))) (row_at scenario j i p)
  unfolding rows_of rows_at lines
  line_at j i p a b c =
      at_part (rows_at scenario) scenario.receptors.count (lines_per_receptor scenario) j (i * pathways_per_chemical + (p * 1 + 0)) (row_at scenario j i p) a (rows_length scenario)
      (at_before (chained (lines scenario j) scenario.chemicals.count) (total_row scenario j ∷ []) (i * pathways_per_chemical + (p * 1 + 0)) (row_at scenario j i p)
      (at_part (lines scenario j) scenario.chemicals.count pathways_per_chemical i (p * 1 + 0) (row_at scenario j i p) b (lines_many scenario j)
      (at_part (λ p. row_at scenario j i p ∷ []) pathways_per_chemical 1 p 0 (row_at scenario j i p) c (λ q. refl) (alone (row_at scenario j i p)))))

  total_at_lem : (j : ℕ) → j < scenario.receptors.count → At (rows_of scenario) (j * lines_per_receptor scenario + (scenario.chemicals.count * pathways_per_chemical + 0)) (total_row scenario j)
  unfolding rows_of rows_at lines
  total_at_lem j a =
      at_part (rows_at scenario) scenario.receptors.count (lines_per_receptor scenario) j (scenario.chemicals.count * pathways_per_chemical + 0) (total_row scenario j) a (rows_length scenario)
      (at_after (chained (lines scenario j) scenario.chemicals.count) (total_row scenario j ∷ []) (scenario.chemicals.count * pathways_per_chemical) 0 (total_row scenario j) (lines_all scenario j) (alone (total_row scenario j)))

  -- the whole of it
  module _ (ids : SmallIds scenario) {exact : Exact} (sound : Sound scenario exact) (small : first (large_lines scenario) ≡ passed) where
    printed : Sources scenario → (rest : List ℕ) → Printed scenario (lines_text (rows_of scenario) ++ rest)
    printed sources rest =
        record {
          line = λ j i p a b c.
              let e : j * lines_per_receptor scenario + (i * pathways_per_chemical + (p * 1 + 0)) ≡ j * lines_per_receptor scenario + i * pathways_per_chemical + p = omega arith in
              subst (λ (l : ℕ). line_in (lines_text (rows_of scenario) ++ rest) l ≡ row_text (row_at scenario j i p)) e
              (at_line (rows_of scenario) (j * lines_per_receptor scenario + (i * pathways_per_chemical + (p * 1 + 0))) (row_at scenario j i p) rest (line_at j i p a b c));
          total = λ j a.
              let e : j * lines_per_receptor scenario + (scenario.chemicals.count * pathways_per_chemical + 0) ≡ j * lines_per_receptor scenario + scenario.chemicals.count * pathways_per_chemical = omega arith in
              subst (λ (l : ℕ). line_in (lines_text (rows_of scenario) ++ rest) l ≡ row_text (total_row scenario j)) e
              (at_line (rows_of scenario) (j * lines_per_receptor scenario + (scenario.chemicals.count * pathways_per_chemical + 0)) (total_row scenario j) rest (total_at_lem j a));
          rule = line_by_rule scenario sound small;
          line_fits = row_fits scenario ids sound small;
          total_fits = total_row_fits scenario ids sound small;
          entered = λ j i h. sources.entered j i;
          rested = λ j i h. sources.rested j i;
        }

-- What the laws ask of a call: that every deck which it reads gives a sound scenario with ids of six digits, and receptors made as it says; and that it
-- prints the report.
pub record Sounds (call : Call) (Made : Case → Type 0) : Type 0 where
  pub sound : (deck : List ℕ) → first (conditions call.sort deck) ≡ passed → Sound (scenario_of call deck) (exact_of call deck)
  pub ids : (deck : List ℕ) → first (conditions call.sort deck) ≡ passed → SmallIds (scenario_of call deck)
  pub made : (deck : List ℕ) → first (conditions call.sort deck) ≡ passed → Made (case_of deck)
  pub form : call.form ≡ rows_of

-- none of the conditions after the deck's own holds
pub clear : (call : Call) (deck : List ℕ) (room : ℕ) → first (all_conditions call deck room) ≡ passed
    → (first (conditions call.sort deck) ≡ passed) × (first (large_lines (scenario_of call deck)) ≡ passed)
unfolding all_conditions form_conditions
clear call deck room e =
    let scenario = scenario_of call deck in
    let t = append_read (conditions call.sort deck) (form_conditions (rows_for call deck) scenario room) e in
    let u = first_read (too_short (rows_for call deck) room) (large_lines scenario) t.1 in
    (t.0, u.1)

module _ (call : Call) (Made : Case → Type 0) (sounds : Sounds call Made) where
  deck_sources : (deck : List ℕ) → first (conditions call.sort deck) ≡ passed → Sources (scenario_of call deck)
  unfolding scenario_of
  deck_sources deck e = sources_of_lem call.sort (case_of deck) (accepted call.sort deck e) (call.receptors (case_of deck))

  own_lines : (sort : Sort) (deck : List ℕ) → first (conditions sort deck) ≡ passed → lines_of deck ≡ site_lines + record_lines * ((case_of deck).chemicals.count + (case_of deck).receptors.count) + 1
  unfolding case_of case_with
  own_lines sort deck e = all_lines sort deck e

  chemicals_own : (call : Call) (deck : List ℕ) → (scenario_of call deck).chemicals ≡ (case_of deck).chemicals
  unfolding scenario_of scenario_with
  chemicals_own call deck = refl

  reported : (deck buffer : List ℕ) → status_of call deck (length buffer) ≡ passed → Reported call Made deck buffer
  unfolding status_of outcome_of outcome_for buffer_of buffer_for length_of rows_for
  reported deck buffer e =
      let scenario = scenario_of call deck in
      let rows = call.form scenario in
      let none = clear call deck (length buffer) e in
      let text : buffer_of call deck buffer ≡ lines_text rows ++ drop (length_of rows) buffer = ap (λ (s : Status). buffer_for s rows buffer) e in
      record {
        none = read_none (all_conditions call deck (length buffer)) e;
        told = ap (λ (s : Status). outcome_for s rows) e;
        printed =
            subst (Printed scenario) (sym (text ∙ ap (λ (form : Form). lines_text (form scenario) ++ drop (length_of rows) buffer) sounds.form))
            (printed scenario (sounds.ids deck none.0) (sounds.sound deck none.0) none.1 (deck_sources deck none.0) (drop (length_of rows) buffer));
        own = record { all = own_lines call.sort deck none.0; chemical = chemical_named deck; receptor = receptor_named deck };
        chemicals = chemicals_own call deck;
        made = sounds.made deck none.0;
        past = ap (drop (length_of rows)) text ∙ drop_at (lines_text rows) (drop (length_of rows) buffer) (length_of rows) (length_lines rows);
      }

  by_status : (deck buffer : List ℕ) (s : Status) → status_of call deck (length buffer) ≡ s → Reported call Made deck buffer ⊎ Refused call deck buffer
  by_status deck buffer (Ok done) e = inl (reported deck buffer e)
  by_status deck buffer (Err halt) e = inr (refused call deck buffer halt e)

  -- for any such call
  pub demand_2_of : Demand2 call Made
  unfolding Demand2
  demand_2_of deck buffer = by_status deck buffer (status_of call deck (length buffer)) refl

-- ---- the ordinary call
-- an ordinary deck's receptors are made as demand 2 says
module _ (case : Case) (ranged : Ranged Ordinary case) where
  exposed_at : (j i : ℕ) → j < case.receptors.count
      → Exposed (time_given (value_at (receptor_at case j) (place_of "T2"))) (deposition_of case.site) (stay_in (ordinary_of case) j) (pairs_at (ordinary_of case) j i).later
  unfolding stay_in pairs_at receptor_in ordinary_of scenario_with entered receptor_with deposition_of
  exposed_at j i h =
      subst (λ (r : receptors.Receptor). Exposed (time_given (value_at (receptor_at case j) (place_of "T2"))) (deposition_of case.site) r.stay r.later) (sym (entered_at case ranged j h))
      (exposed (time_given (value_at (receptor_at case j) (place_of "T2"))) (deposition_of case.site) (exposure_told case ranged j h).exact.time (deposition_told Ordinary case ranged).exact.time)

  ordinary_made : Entered case
  unfolding ordinary_of scenario_with entered_from
  ordinary_made =
      record {
        many = refl;
        named = own_id case ranged;
        entered = receptor_entered case ranged;
        deposition = record { taken = (deposition_told Ordinary case ranged).told };
        exposure = λ j h. record { taken = (exposure_told case ranged j h).told };
        exposed = exposed_at;
      }

entered_ids : (deck : List ℕ) → Ranged Ordinary (case_of deck) → (j : ℕ) → j < (case_of deck).receptors.count → (receptor_in (scenario_of ordinary deck) j).id < 10 ^ id_width
unfolding receptor_in scenario_of ordinary scenario_with entered receptor_with
entered_ids deck ranged j h = subst (λ (r : receptors.Receptor). r.id < 10 ^ id_width) (sym (entered_at (case_of deck) ranged j h)) ((small_ids deck).0 j h)

pub ordinary_sounds : Sounds ordinary Entered
unfolding ordinary scenario_of exact_of exact_at ordinary_of scenario_with entered_from chemical_in chemical_at
ordinary_sounds =
    record {
      sound = λ deck e. ordinary_sound (case_of deck) (accepted Ordinary deck e);
      ids = λ deck e. record { receptor = entered_ids deck (accepted Ordinary deck e); chemical = (small_ids deck).1 };
      made = λ deck e. ordinary_made (case_of deck) (accepted Ordinary deck e);
      form = refl;
    }

pub demand_2 : Demand2 ordinary Entered
demand_2 = demand_2_of ordinary Entered ordinary_sounds
