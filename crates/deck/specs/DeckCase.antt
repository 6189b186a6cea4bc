-- The case that a deck spells: its records, read off the bytes by position (document 01, "Deck").
-- Assumes nothing.
use Rattle.std.specs.Prelude.{ℕ, ◌+◌, ◌*◌, ◌-◌, ◌/◌, ◌%◌, List, ◌++◌, replicate, Result, Ok, Err}
use Rattle.std.specs.Option.{unwrap_or}
use Rattle.deck.specs.Parts.{lines_of, line_of, field_of}
use Rattle.spelling.specs.Spelling.{word_of}
use Rattle.sizes.specs.Sizes.{max_chemicals, most_stages, site_lines, record_lines, fields_per_line, slots_per_record}
use Rattle.cases.specs.Conditions.{Status, first}
use Rattle.deck.specs.DeckConditions.{conditions, seen_in, id_of}
use Rattle.slots.specs.declared.Sort.{Sort}
use Rattle.spelling.specs.declared.Word.{Word}
use Rattle.spelling.specs.declared.Word.TheVariants.{Blank, Dash, Number, Other}
use Rattle.cases.specs.declared.Value.{Value}
use Rattle.cases.specs.declared.Value.TheVariants.{Absent, Given}
use Rattle.cases.specs.declared.Record.{Record}
use Rattle.cases.specs.declared.Case.{Case}
use Rattle.cases.specs.declared.Stop.{Stop}
use Rattle.lists.specs.Lists.{tabulate}
use Rattle.cases.specs.Cases.{no_record}

-- the value as printed; a blank or a lone - has none
unfoldable pub value_of : Word → Value
value_of Blank = Absent
value_of Dash = Absent
value_of (Number digits power) = Given power digits
value_of Other = Absent

-- slot k, from 0, of the record that begins at line n
unfoldable pub slot_spelled : List ℕ → ℕ → ℕ → Value
slot_spelled deck n k = value_of (word_of (field_of deck (n + k / fields_per_line) (k % fields_per_line + 1)))

-- the record that begins at line n and has so many lines; its id is 0 where none is spelled
unfoldable pub record_of : List ℕ → ℕ → ℕ → Record
record_of deck n lines =
    record {
      id = unwrap_or (id_of (line_of deck n)) 0;
      slots = tabulate (lines * fields_per_line) (slot_spelled deck n) ++ replicate (slots_per_record - lines * fields_per_line) Absent;
    }

-- count records from line n on, in room for so many
unfoldable pub records_of : List ℕ → ℕ → ℕ → ℕ → List Record
records_of deck n count room = tabulate count (λ i. record_of deck (n + record_lines * i) record_lines) ++ replicate (room - count) no_record

abbrev pub chemicals_start : ℕ
chemicals_start = site_lines + 1

-- the site, and so many chemicals and receptors after it
unfoldable pub case_with : List ℕ → ℕ → ℕ → Case
case_with deck chemicals receptors =
    record {
      site = record_of deck 1 site_lines;
      chemicals = record { count = chemicals; records = records_of deck chemicals_start chemicals max_chemicals };
      receptors = record { count = receptors; records = records_of deck (chemicals_start + record_lines * chemicals) receptors most_stages };
    }

-- chemicals and receptors are counted by their first lines
unfoldable pub case_of : List ℕ → Case
case_of deck = case_with deck (seen_in deck (lines_of deck)).chemicals (seen_in deck (lines_of deck)).receptors

-- ---- the reading
abbrev pub Reading : Type 0
Reading = Result Case Stop

unfoldable pub reading_for : Status → List ℕ → Reading
reading_for (Ok done) deck = Ok (case_of deck)
reading_for (Err stop) deck = Err stop

-- the first condition met, or the case
unfoldable pub read_of : Sort → List ℕ → Reading
read_of sort deck = reading_for (first (conditions sort deck)) deck
