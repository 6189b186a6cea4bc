-- The parts of a deck (document 01, "Deck"): its lines and their fields, as lists of bytes.
-- Assumes nothing.
use Rattle.std.specs.Prelude.{ℕ, ◌+◌, ◌*◌, ◌-◌, ◌/◌, cond, List, [], length, get_or, take, drop}
use Rattle.sizes.specs.Sizes.{fields_per_line}
use Rattle.spelling.specs.Columns.{within, id_width, field_width}
use Rattle.kinds.specs.declared.Kind.{Kind}
use Rattle.kinds.specs.Kinds.{kind_in}

-- the columns of a line's kind
abbrev pub kind_width : ℕ
kind_width = 2

-- those before the first field: kind and id
abbrev pub fields_start : ℕ
fields_start = kind_width + id_width

-- all of them: 80
abbrev pub columns : ℕ
columns = fields_start + field_width * fields_per_line

-- and a line feed
abbrev pub deck_line_width : ℕ
deck_line_width = columns + 1

-- how many full lines the deck has
unfoldable pub lines_of : List ℕ → ℕ
lines_of deck = length deck / deck_line_width

-- line n, counted from 1; empty where the deck lacks it
unfoldable pub line_of : List ℕ → ℕ → List ℕ
line_of deck n = cond (within 1 (lines_of deck) n) (take deck_line_width (drop (deck_line_width * (n - 1)) deck)) []

-- field f of a full line, counted from 1; empty where the line lacks it
unfoldable pub field_in : List ℕ → ℕ → List ℕ
field_in line f = cond (within 1 fields_per_line f) (take field_width (drop (fields_start + field_width * (f - 1)) line)) []

-- field f of line n; empty where the deck lacks it
unfoldable pub field_of : List ℕ → ℕ → ℕ → List ℕ
field_of deck n f = field_in (line_of deck n) f

-- the kind of a line: columns 1-2
unfoldable pub kind_of : List ℕ → Kind
kind_of line = kind_in (get_or line 0 0) (get_or line 1 0)
