-- The numbers that document 01 fixes, each once, and what follows from them. src/lib.rt has the same for the code.
-- Assumes nothing.
use Rattle.std.specs.Prelude.{ℕ, ◌*◌}

-- fields of a line
abbrev pub fields_per_line : ℕ
fields_per_line = 6

-- lines of the site's record, and of a chemical's or a receptor's
abbrev pub site_lines : ℕ
site_lines = 2

abbrev pub record_lines : ℕ
record_lines = 4

-- slots of a record, filled line by line
abbrev pub slots_per_record : ℕ
slots_per_record = fields_per_line * record_lines

-- chemicals of a deck, receptors of an ordinary one, and life stages of a composite's (document 02, P2)
abbrev pub max_chemicals : ℕ
max_chemicals = 16

abbrev pub most_receptors : ℕ
most_receptors = 4

abbrev pub most_stages : ℕ
most_stages = 8

-- pathways of a chemical
abbrev pub pathways_per_chemical : ℕ
pathways_per_chemical = 6

-- a receptor's lines but its total line, at most: so many numbers a total adds
abbrev pub most_lines : ℕ
most_lines = max_chemicals * pathways_per_chemical
