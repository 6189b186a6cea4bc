-- Report lines: how long a row's text is, how its columns are written one after the other, and lines after lines.
-- Assumes nothing.
use mathlib.Core.Path.{◌≡◌, refl, sym, ap, ◌∙◌}
use mathlib.Core.List.{List, [], ◌∷◌, ◌++◌, append_assoc, append-nil}
use Prim.Native.Nat.{ℕ, suc, ◌+◌, ◌*◌, ◌≤◌, ◌<◌, zero-le}
use native.Mathlib.Nat.{zero-add}
use lib.Dec.{lit<, lit≤}
use native.Mathlib.Omega.{arith}
use borrow.Author.Tests.{lt-ltb, le-ltb}
use lib.ListN.{length, get_or, take, drop, set, length-append, drop_of_length-le}
use lib.Seq.{drop-cons, set_at}
use Rattle.std.specs.Prelude.{Some, None}
use Rattle.pair.specs.declared.Units.{Units}
use Rattle.totals.specs.Totals.{Columns}
use Rattle.text.specs.declared.Row.{Row}
use Rattle.text.specs.Text.{report_line_width, columns_text, row_text, lines_text, line_told, line_after}
use Rattle.spelling.specs.Columns.{number, justified, dash}
use Rattle.lists.specs.Lists.{placed}
use Rattle.spelling.proofs.Filling.{length_number, length_justified}
use Rattle.lists.proofs.Placed.{grown, placed_two}

pub length_columns : (columns : Columns) → length (columns_text columns) ≡ 40
unfolding columns_text
length_columns None = simp (length-append, length_justified 20 dash (lit≤ tt))
length_columns (Some n) = simp (length-append, length_number 20 n.low (lit< tt), length_number 20 n.high (lit< tt))

-- low and high, one after the other
columns_placed : (line l₁ l₂ low high : List ℕ) (at : ℕ) → at + 40 ≤ length line → length low ≡ 20 → l₁ ≡ placed line at low
    → l₂ ≡ placed l₁ (at + 20) high → l₂ ≡ placed line at (low ++ high)
columns_placed line l₁ l₂ low high at h n e₁ e₂ =
    e₂
    ∙ ap (λ (x : List ℕ). placed x (at + 20) high) e₁
    ∙ placed_two line low high at (at + 20) (omega arith) (ap (λ (m : ℕ). at + m) n)

pub columns_absent : (line l₁ l₂ : List ℕ) (at : ℕ) (columns : Columns) → at + 40 ≤ length line → columns ≡ None
    → l₁ ≡ placed line at (justified 20 dash) → l₂ ≡ placed l₁ (at + 20) (justified 20 dash) → l₂ ≡ placed line at (columns_text columns)
unfolding columns_text
columns_absent line l₁ l₂ at columns h u e₁ e₂ =
    columns_placed line l₁ l₂ (justified 20 dash) (justified 20 dash) at h (length_justified 20 dash (lit≤ tt)) e₁ e₂
    ∙ ap (λ (x : Columns). placed line at (columns_text x)) (sym u)

pub columns_counted : (line l₁ l₂ : List ℕ) (at : ℕ) (columns : Columns) (n : Units) → at + 40 ≤ length line → columns ≡ Some n
    → l₁ ≡ placed line at (number 20 n.low) → l₂ ≡ placed l₁ (at + 20) (number 20 n.high) → l₂ ≡ placed line at (columns_text columns)
unfolding columns_text
columns_counted line l₁ l₂ at columns n h u e₁ e₂ =
    columns_placed line l₁ l₂ (number 20 n.low) (number 20 n.high) at h (length_number 20 n.low (lit< tt)) e₁ e₂
    ∙ ap (λ (x : Columns). placed line at (columns_text x)) (sym u)

-- a text more from the start of a line
step : (line before after text next : List ℕ) (at : ℕ) → before ≡ placed line 0 text → length text ≡ at → after ≡ placed before at next
    → after ≡ placed line 0 (text ++ next)
step line before after text next at b l a =
    a ∙ ap (λ (x : List ℕ). placed x at next) b ∙ placed_two line text next 0 at zero-le (zero-add (length text) ∙ l)

-- the line feed
ended : (line before text : List ℕ) (at : ℕ) → length line ≡ suc at → before ≡ placed line 0 text → length text ≡ at
    → set before at 10 ≡ text ++ (10 ∷ [])
unfolding placed
ended line before text at e b l =
    let past : length line ≤ suc at = omega arith in
    let here : at < length line = omega arith in
    let tail : drop (0 + length text) line ≡ get_or line at 0 ∷ [] =
    ap (λ (m : ℕ). drop m line) (zero-add (length text) ∙ l)
    ∙ drop-cons line at 0 here
    ∙ ap (λ (x : List ℕ). get_or line at 0 ∷ x) (drop_of_length-le line past)
    in
    ap (λ (x : List ℕ). set x at 10) (b ∙ ap (λ (x : List ℕ). text ++ x) tail) ∙ set_at text (get_or line at 0) [] 10 at l

-- a whole line, column by column
pub row_written : (line l₁ l₂ l₃ l₄ l₅ : List ℕ) (row : Row) → length line ≡ report_line_width
    → l₁ ≡ placed line 0 (number 6 row.receptor)
    → l₂ ≡ placed l₁ 6 (number 6 row.chemical)
    → l₃ ≡ placed l₂ 12 (number 2 row.pathway)
    → l₄ ≡ placed l₃ 14 (columns_text row.hazard)
    → l₅ ≡ placed l₄ 54 (columns_text row.cancer)
    → set l₅ 94 10 ≡ row_text row
unfolding row_text
row_written line l₁ l₂ l₃ l₄ l₅ row e e₁ e₂ e₃ e₄ e₅ =
    let n₁ = length_number 6 row.receptor (lit< tt) in
    let n₂ = length_number 6 row.chemical (lit< tt) in
    let n₃ = length_number 2 row.pathway (lit< tt) in
    let n₄ = length_columns row.hazard in
    let n₅ = length_columns row.cancer in
    let s₂ = step line l₁ l₂ _ _ 6 e₁ n₁ e₂ in
    let s₃ = step line l₂ l₃ _ _ 12 s₂ (simp (length-append, n₁, n₂)) e₃ in
    let s₄ = step line l₃ l₄ _ _ 14 s₃ (simp (length-append, n₁, n₂, n₃)) e₄ in
    let s₅ = step line l₄ l₅ _ _ 54 s₄ (simp (length-append, n₁, n₂, n₃, n₄)) e₅ in
    ended line l₅ _ 94 e s₅ (simp (length-append, n₁, n₂, n₃, n₄, n₅))

pub length_row : (row : Row) → length (row_text row) ≡ report_line_width
unfolding row_text
length_row row =
    simp (
      length-append,
      length_number 6 row.receptor (lit< tt),
      length_number 6 row.chemical (lit< tt),
      length_number 2 row.pathway (lit< tt),
      length_columns row.hazard,
      length_columns row.cancer,
    )

pub length_lines : (rows : List Row) → length (lines_text rows) ≡ report_line_width * length rows
unfolding lines_text
length_lines [] = refl
length_lines (row ∷ rows) = simp (length-append, length_row, length_lines rows) (omega arith)

pub lines_append : (rows more : List Row) → lines_text (rows ++ more) ≡ lines_text rows ++ lines_text more
unfolding lines_text
lines_append [] more = refl
lines_append (first ∷ rows) more =
    ap (λ (x : List ℕ). row_text first ++ x) (lines_append rows more) ∙ sym (append_assoc (row_text first) (lines_text rows) (lines_text more))

-- a part of one line
pub one_line : (row : Row) → lines_text (row ∷ []) ≡ row_text row
unfolding lines_text
one_line row = append-nil (row_text row)

pub length_one : (row : Row) → length (lines_text (row ∷ [])) ≡ report_line_width
length_one row = ap length (one_line row) ∙ length_row row

-- a last line that ends the part
pub last_line : (rows : List Row) (row : Row) (entry out : List ℕ) (at : ℕ) → length (lines_text rows) ≡ at → length entry ≡ at + report_line_width → out ≡ lines_text rows ++ drop at entry
    → take at out ++ row_text row ++ drop (at + report_line_width) out ≡ lines_text (rows ++ (row ∷ []))
last_line rows row entry out at long end e =
    let past : length entry ≤ at + report_line_width = omega arith in
    grown entry (lines_text rows) out (row_text row) at report_line_width e long (length_row row)
    ∙ ap (λ (x : List ℕ). (lines_text rows ++ row_text row) ++ x) (drop_of_length-le entry past)
    ∙ append-nil (lines_text rows ++ row_text row)
    ∙ ap (λ (x : List ℕ). lines_text rows ++ x) (sym (one_line row))
    ∙ sym (lines_append rows (row ∷ []))

-- ---- a line written into its part
pub line_short : (row : Row) (part : List ℕ) → length part < report_line_width → (line_told (length part) ≡ 51) × (line_after row part ≡ part)
unfolding line_told line_after
line_short row part h = (simp (lt-ltb _ _ h), simp (lt-ltb _ _ h))

pub line_whole : (row : Row) (part : List ℕ) → report_line_width ≤ length part
    → (line_told (length part) ≡ 0) × (line_after row part ≡ row_text row ++ drop report_line_width part)
unfolding line_told line_after
line_whole row part h = (simp (le-ltb _ _ h), simp (le-ltb _ _ h))

-- a part of just one line
pub line_own : (row : Row) (part : List ℕ) → length part ≡ report_line_width → line_after row part ≡ row_text row
line_own row part e =
    let long : report_line_width ≤ length part = omega arith in
    let short : length part ≤ report_line_width = omega arith in
    (line_whole row part long).1 ∙ ap (λ (x : List ℕ). row_text row ++ x) (drop_of_length-le part short) ∙ append-nil (row_text row)
