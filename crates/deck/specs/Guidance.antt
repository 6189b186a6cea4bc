-- Slot 12, the year (document 02, P6), and a deck and a case as they would be with that slot blank, as every deck before P6 had it.
-- Assumes nothing.
use Rattle.std.specs.Prelude.{ℕ, ◌+◌, ◌*◌, ◌-◌, Bool, true, false, List, ◌++◌, take, drop, replicate}
use Rattle.spelling.specs.Columns.{field_width}
use Rattle.deck.specs.Parts.{deck_line_width, columns, field_of}
use Rattle.spelling.specs.Spelling.{word_of}
use Rattle.sizes.specs.Sizes.{site_lines, fields_per_line}
use Rattle.cases.specs.Ranges.{is_year_of}
use Rattle.slots.specs.declared.Guidance.TheVariants.{Of2005, Of2009}
use Rattle.spelling.specs.declared.Word.{Word}
use Rattle.spelling.specs.declared.Word.TheVariants.{Blank, Dash, Number, Other}

-- what it holds: the last field of the site's last line
unfoldable pub year_word : List ℕ → Word
year_word deck = word_of (field_of deck site_lines fields_per_line)

-- blank, or 2005 in any spelling
unfoldable pub is2005 : Word → Bool
is2005 Blank = true
is2005 Dash = false
is2005 (Number digits power) = is_year_of Of2005 digits power
is2005 Other = false

-- 2009 in any spelling
unfoldable pub is2009 : Word → Bool
is2009 Blank = false
is2009 Dash = false
is2009 (Number digits power) = is_year_of Of2009 digits power
is2009 Other = false

-- the columns of its line before it, and the bytes of the deck before it and with it
abbrev pub year_column : ℕ
year_column = columns - field_width

abbrev pub year_start : ℕ
year_start = deck_line_width * (site_lines - 1) + year_column

abbrev pub year_end : ℕ
year_end = year_start + field_width

-- the deck with spaces in its columns
unfoldable pub without_year : List ℕ → List ℕ
without_year deck = take year_start deck ++ (replicate field_width 32 ++ drop year_end deck)
