-- The report written from cells: a receptor's lines one after the other and its total line, and receptor after receptor. Assumes nothing.
use mathlib.Core.Path.{◌≡◌, refl, sym, ap, ◌∙◌}
use mathlib.Core.List.{List, [], ◌∷◌, ◌++◌}
use Prim.Native.Nat.{ℕ, zero, suc, ◌+◌, ◌*◌, ◌-◌, ◌/◌, ◌≤◌, ◌<◌}
use native.Mathlib.Nat.{mul-suc, mul-le-mul_left}
use native.Mathlib.Numerals.{add-one}
use native.Mathlib.Omega.{arith}
use lib.ListN.{length, get_or, take, drop, length-append}
use Rattle.lists.proofs.ListLaws.{read_any}
use Rattle.cases.specs.declared.Chemicals.{Chemicals}
use Rattle.cases.specs.declared.Record.{Record}
use Rattle.cases.specs.Cases.{no_record}
use Rattle.text.specs.declared.Row.{Row}
use Rattle.sizes.specs.Sizes.{pathways_per_chemical}
use Rattle.text.specs.Text.{report_line_width, row_text, lines_text, line_after}
use Rattle.lists.proofs.Placed.{grown, lent}
use Rattle.text.proofs.Rows.{length_lines, length_one, lines_append, one_line, last_line, line_own}
use Rattle.scenario.specs.declared.Receptor.{Receptor}
use Rattle.scenario.specs.Scenario.{no_receptor}
use Rattle.lists.specs.Lists.{chained}
use Rattle.report.specs.Inner.{row_in, total_row_in, lines_in, rows_in, report_in}
use Rattle.lists.proofs.Chained.{chained_more, chained_length}

-- parts of a report, each of so many bytes, one after the other
module _ (f : ℕ → List Row) (width : ℕ) (each : (k : ℕ) → length (lines_text (f k)) ≡ width) where
  length_parts : (k : ℕ) → length (lines_text (chained f k)) ≡ width * k
  unfolding chained lines_text
  length_parts zero = omega arith
  length_parts (suc k) =
      ap length (lines_append (chained f k) (f k)) ∙ length-append (lines_text (chained f k)) (lines_text (f k)) ∙ rw (length_parts k, each k, mul-suc) refl

  -- a part more, which was lent and came back as these lines
  part_more : (entry out last : List ℕ) (k : ℕ) → last ≡ lines_text (f k) → out ≡ lines_text (chained f k) ++ drop (width * k) entry
      → take (width * k) out ++ (last ++ drop (width * k + width - width * k) (drop (width * k) out)) ≡ lines_text (chained f (k + 1)) ++ drop (width * (k + 1)) entry
  part_more entry out last k l e =
      let more : lines_text (chained f k) ++ lines_text (f k) ≡ lines_text (chained f (k + 1)) =
      sym (ap lines_text (chained_more f k) ∙ lines_append (chained f k) (f k))
      in
      let past : width * k + width ≡ width * (k + 1) = sym (rw add-one (mul-suc width k)) in
      lent out last (lines_text (f k)) (width * k) width l
      ∙ grown entry (lines_text (chained f k)) out (lines_text (f k)) (width * k) width e (length_parts k) (each k)
      ∙ ap (λ (x : List ℕ). x ++ drop (width * k + width) entry) more
      ∙ ap (λ (m : ℕ). lines_text (chained f (k + 1)) ++ drop m entry) past

-- ---- a receptor
module _ (cells : List ℕ) (j id' : ℕ) (chemicals' : Chemicals) where
  abbrev line : ℕ → List Row
  line q = row_in cells j id' (get_or chemicals'.records (q / pathways_per_chemical) no_record).id q ∷ []

  -- line q is written
  pub line_more : (blank : Record) (entry part own last : List ℕ) (q : ℕ) (row : Row) → q / pathways_per_chemical < length chemicals'.records
      → row ≡ row_in cells j id' (get_or chemicals'.records (q / pathways_per_chemical) blank).id q → length own ≡ report_line_width → last ≡ line_after row own
      → part ≡ lines_text (lines_in cells j id' chemicals' q) ++ drop (report_line_width * q) entry
      → take (report_line_width * q) part ++ (last ++ drop (report_line_width * q + report_line_width - report_line_width * q) (drop (report_line_width * q) part)) ≡ lines_text (lines_in cells j id' chemicals' (q + 1)) ++ drop (report_line_width * (q + 1)) entry
  unfolding lines_in
  line_more blank entry part own last q row here r wide l e =
      let row_is : row ≡ row_in cells j id' (get_or chemicals'.records (q / pathways_per_chemical) no_record).id q =
      r ∙ ap (λ (c : Record). row_in cells j id' c.id q) (read_any chemicals'.records (q / pathways_per_chemical) here blank no_record)
      in
      part_more line report_line_width (λ k. length_one (row_in cells j id' (get_or chemicals'.records (k / pathways_per_chemical) no_record).id k)) entry part last q
      (l ∙ line_own row own wide ∙ ap row_text row_is ∙ sym (one_line _)) e

  length_lines_in : (n : ℕ) → length (lines_in cells j id' chemicals' n) ≡ n
  unfolding lines_in
  length_lines_in n = chained_length line n 1 (λ k. refl) ∙ omega arith

  -- the total line is written after them
  pub total_more : (entry part own last : List ℕ) (n : ℕ) (row : Row) → n ≡ chemicals'.count * pathways_per_chemical → length entry ≡ report_line_width * (chemicals'.count * pathways_per_chemical + 1)
      → row ≡ total_row_in cells j id' n → length own ≡ report_line_width → last ≡ line_after row own → part ≡ lines_text (lines_in cells j id' chemicals' n) ++ drop (report_line_width * n) entry
      → take (report_line_width * n) part ++ (last ++ drop (report_line_width * n + report_line_width - report_line_width * n) (drop (report_line_width * n) part)) ≡ lines_text (rows_in cells j id' chemicals')
  unfolding rows_in
  total_more entry part own last n row m long r wide l e =
      lent part last (row_text (total_row_in cells j id' n)) (report_line_width * n) report_line_width (l ∙ line_own row own wide ∙ ap row_text r)
      ∙ last_line (lines_in cells j id' chemicals' n) (total_row_in cells j id' n) entry part (report_line_width * n)
      (length_lines (lines_in cells j id' chemicals' n) ∙ ap (λ (k : ℕ). report_line_width * k) (length_lines_in n)) (omega arith) e
      ∙ ap (λ (k : ℕ). lines_text (lines_in cells j id' chemicals' k ++ (total_row_in cells j id' k ∷ []))) m

  length_rows_in : length (lines_text (rows_in cells j id' chemicals')) ≡ report_line_width * (chemicals'.count * pathways_per_chemical + 1)
  unfolding rows_in
  length_rows_in =
      length_lines _
      ∙ ap (λ (k : ℕ). report_line_width * k) (length-append (lines_in cells j id' chemicals' (chemicals'.count * pathways_per_chemical)) _ ∙ ap (λ (k : ℕ). k + 1) (length_lines_in (chemicals'.count * pathways_per_chemical)))

-- ---- the report
-- receptor j's part lies within it
pub within : (count j n : ℕ) → j < count → report_line_width * (n * pathways_per_chemical + 1) * j + report_line_width * (n * pathways_per_chemical + 1) ≤ report_line_width * (count * (n * pathways_per_chemical + 1))
within count j n h = omega (arith, mul-le-mul_left (report_line_width * (n * pathways_per_chemical + 1)) h)

-- receptor j's lines are written
pub receptor_more : (cells : List ℕ) (chemicals' : Chemicals) (list : List Receptor) (blank : Receptor) (entry out last : List ℕ) (j : ℕ) → j < length list
    → last ≡ lines_text (rows_in cells j (get_or list j blank).id chemicals')
    → let width = report_line_width * (chemicals'.count * pathways_per_chemical + 1) in
    out ≡ lines_text (report_in cells chemicals' list j) ++ drop (width * j) entry
    → take (width * j) out ++ (last ++ drop (width * j + width - width * j) (drop (width * j) out)) ≡ lines_text (report_in cells chemicals' list (j + 1)) ++ drop (width * (j + 1)) entry
unfolding report_in
receptor_more cells chemicals' list blank entry out last j here l e =
    part_more (λ k. rows_in cells k (get_or list k no_receptor).id chemicals') (report_line_width * (chemicals'.count * pathways_per_chemical + 1))
    (λ k. length_rows_in cells k (get_or list k no_receptor).id chemicals') entry out last j
    (l ∙ ap (λ (c : Receptor). lines_text (rows_in cells j c.id chemicals')) (read_any list j here blank no_receptor)) e
