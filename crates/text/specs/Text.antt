-- The text of a report line (document 01, "Report"): receptor, chemical, pathway, hazard low, hazard high, risk low, risk high, all
-- right-justified, and a line feed: 95 bytes.
-- Bytes: 10 is a line feed, 32 a space, 45 -, 48 to 57 the digits.
-- Assumes nothing.
use Rattle.std.specs.Prelude.{ℕ, ◌+◌, ◌*◌, ◌^◌, ◌<◌, cond, List, [], ◌∷◌, ◌++◌, ltb, length, drop, Some, None, Result, Ok, Err}
use Rattle.totals.specs.Totals.{Columns}
use Rattle.text.specs.declared.Row.{Row}
use Rattle.text.specs.declared.TooShort.{TooShort}
use Rattle.spelling.specs.Columns.{id_width, justified, number, dash}

abbrev pub pathway_width : ℕ
pathway_width = 2

abbrev pub count_width : ℕ
count_width = 20

-- a line with its line feed: 95 bytes
abbrev pub report_line_width : ℕ
report_line_width = 2 * id_width + pathway_width + 4 * count_width + 1

-- low and high
unfoldable pub columns_text : Columns → List ℕ
columns_text None = justified count_width dash ++ justified count_width dash
columns_text (Some counts) = number count_width counts.low ++ number count_width counts.high

unfoldable pub row_text : Row → List ℕ
row_text row =
    number id_width row.receptor
    ++ number id_width row.chemical
    ++ number pathway_width row.pathway
    ++ columns_text row.hazard
    ++ columns_text row.cancer
    ++ (10 ∷ [])

-- rows, one after the other
unfoldable pub lines_text : List Row → List ℕ
lines_text [] = []
lines_text (row ∷ rows) = row_text row ++ lines_text rows

-- ---- a row that its columns hold, so that its text determines it: ids below 10^6, the pathway below 10^2, counts below 10^20
unfoldable pub CountsFit : Columns → Type 0
CountsFit None = Unit {0}
CountsFit (Some counts) = (counts.low < 10 ^ count_width) × (counts.high < 10 ^ count_width)

pub record FitsColumns (row : Row) : Type 0 where
  pub receptor : row.receptor < 10 ^ id_width
  pub chemical : row.chemical < 10 ^ id_width
  pub pathway : row.pathway < 10 ^ pathway_width
  pub hazard : CountsFit row.hazard
  pub cancer : CountsFit row.cancer

-- ---- the call
-- the number of each answer
abbrev pub written : Result (Unit {0}) TooShort → ℕ
written (Ok done) = 0
written (Err e) = 51

-- 51 for a part shorter than a line
unfoldable pub line_told : ℕ → ℕ
line_told room = cond (ltb room report_line_width) 51 0

-- the part afterwards: the row in the place of its first 95 bytes; as it was, where it is shorter
unfoldable pub line_after : Row → List ℕ → List ℕ
line_after row part = cond (ltb (length part) report_line_width) part (row_text row ++ drop report_line_width part)
