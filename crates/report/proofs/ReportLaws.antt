-- The rows of a scenario's report, how many they are, and that a sound scenario's cells hold them. Assumes nothing.
use mathlib.Core.Path.{◌≡◌, refl, sym, ◌∙◌, ap}
use mathlib.Core.List.{List, [], ◌∷◌, ◌++◌}
use Prim.Native.Nat.{ℕ, ◌+◌, ◌*◌, ◌/◌, ◌%◌, ◌<◌}
use native.Mathlib.Numerals.{add-one}
use native.Mathlib.Omega.{arith}
use lib.Dec.{lit<}
use lib.ListN.{length, get_or, drop, length-append}
use Rattle.text.specs.Text.{report_line_width, lines_text}
use Rattle.report.specs.Forms.{length_of}
use Rattle.sizes.specs.Sizes.{pathways_per_chemical}
use Rattle.cases.specs.Cases.{no_record}
use Rattle.equations.specs.declared.Effect.TheVariants.{Hazard, Cancer}
use Rattle.cases.specs.Conditions.{passed}
use Rattle.cases.specs.Conditions.{first}
use Rattle.text.specs.declared.Row.{Row}
use Rattle.scenario.specs.declared.Scenario.{Scenario}
use Rattle.scenario.specs.Scenario.{chemical_in, receptor_in}
use Rattle.lists.specs.Lists.{chained}
use Rattle.sheet.specs.Sheet.{lines_per_receptor, large_lines}
use Rattle.sheet.specs.Counts.{cells_of}
use Rattle.report.specs.Report.{row_at, total_row, rows_at, rows_of}
use Rattle.report.specs.Inner.{per_receptor, row_in, total_row_in, lines_in, rows_in, report_in}
use Rattle.sheet.proofs.Held.{columns_held}
use Rattle.sheet.proofs.SheetCaseLaws.{Figured, total_held}
use Rattle.lists.proofs.Chained.{chained_same, chained_length, flat}

-- ---- how many they are
module _ (scenario : Scenario) where
  unfoldable pub lines : ℕ → ℕ → List Row
  lines j i = chained (λ p. row_at scenario j i p ∷ []) pathways_per_chemical

  pub lines_many : (j i : ℕ) → length (lines j i) ≡ pathways_per_chemical
  unfolding lines
  lines_many j i = chained_length (λ p. row_at scenario j i p ∷ []) pathways_per_chemical 1 (λ p. refl)

  pub lines_all : (j : ℕ) → length (chained (lines j) scenario.chemicals.count) ≡ scenario.chemicals.count * pathways_per_chemical
  lines_all j = chained_length (lines j) scenario.chemicals.count pathways_per_chemical (lines_many j)

  pub rows_length : (j : ℕ) → length (rows_at scenario j) ≡ lines_per_receptor scenario
  unfolding rows_at lines_per_receptor lines
  rows_length j = length-append (chained (lines j) scenario.chemicals.count) (total_row scenario j ∷ []) ∙ omega (arith, lines_all j)

  pub report_length_lem : length (rows_of scenario) ≡ scenario.receptors.count * lines_per_receptor scenario
  unfolding rows_of
  report_length_lem = chained_length (rows_at scenario) scenario.receptors.count (lines_per_receptor scenario) rows_length

  -- so many bytes
  pub length_is : (n : ℕ) → n ≡ report_line_width * (scenario.receptors.count * per_receptor scenario.chemicals.count) → n ≡ length_of (rows_of scenario)
  unfolding length_of lines_per_receptor
  length_is n e = e ∙ ap (λ (m : ℕ). report_line_width * m) (sym report_length_lem)

  pub past_rows : (out : List ℕ) (rows : List Row) (buffer : List ℕ) → out ≡ lines_text rows ++ drop (report_line_width * (scenario.receptors.count * per_receptor scenario.chemicals.count)) buffer
      → out ≡ lines_text rows ++ drop (length_of (rows_of scenario)) buffer
  past_rows out rows buffer e = e ∙ ap (λ (n : ℕ). lines_text rows ++ drop n buffer) (length_is _ refl)

-- ---- what the cells hold where no line is refused and none too large
module _ (scenario : Scenario) (figured : Figured scenario) (small : first (large_lines scenario) ≡ passed) where
  module _ (j : ℕ) (here : j < scenario.receptors.count) where
    line_held : (q : ℕ) → q < scenario.chemicals.count * pathways_per_chemical
        → row_in (cells_of scenario) j (receptor_in scenario j).id (chemical_in scenario (q / pathways_per_chemical)).id q ≡ row_at scenario j (q / pathways_per_chemical) (q % pathways_per_chemical)
    unfolding row_in row_at
    line_held q h =
        let held = columns_held scenario figured.few_chemicals figured.few_receptors j q here h in
        rw (held Hazard, held Cancer, add-one) refl

    total_row_held : total_row_in (cells_of scenario) j (receptor_in scenario j).id (scenario.chemicals.count * pathways_per_chemical) ≡ total_row scenario j
    unfolding total_row_in total_row
    total_row_held =
        let held = total_held scenario figured small j here in
        rw (held Hazard, held Cancer) refl

    receptor_held : rows_in (cells_of scenario) j (receptor_in scenario j).id scenario.chemicals ≡ rows_at scenario j
    unfolding rows_in lines_in rows_at chemical_in
    receptor_held =
        let n = scenario.chemicals.count in
        let line : ℕ → ℕ → List Row = λ i p. row_at scenario j i p ∷ [] in
        ap (λ (l : List Row). l ++ (total_row_in (cells_of scenario) j (receptor_in scenario j).id (n * pathways_per_chemical) ∷ []))
        (chained_same (λ q. row_in (cells_of scenario) j (receptor_in scenario j).id (chemical_in scenario (q / pathways_per_chemical)).id q ∷ []) (λ q. line (q / pathways_per_chemical) (q % pathways_per_chemical)) (n * pathways_per_chemical)
        (λ q h. ap (λ (row : Row). row ∷ []) (line_held q h))
        ∙ sym (flat pathways_per_chemical (lit< tt) line n))
        ∙ ap (λ (row : Row). chained (λ i. chained (line i) pathways_per_chemical) n ++ (row ∷ [])) total_row_held

  pub rows_held : report_in (cells_of scenario) scenario.chemicals scenario.receptors.list scenario.receptors.count ≡ rows_of scenario
  unfolding report_in rows_of receptor_in
  rows_held = chained_same (λ j. rows_in (cells_of scenario) j (receptor_in scenario j).id scenario.chemicals) (rows_at scenario) scenario.receptors.count receptor_held
