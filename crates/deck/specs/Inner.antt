-- For the contracts of this crate's inner functions only: the values of a deck's fields as they are kept while it is scanned.
-- Assumes nothing.
use Rattle.std.specs.Prelude.{ℕ, ◌+◌, ◌*◌, ◌/◌, ◌%◌, List}
use Rattle.deck.specs.Parts.{field_in, field_of}
use Rattle.spelling.specs.Spelling.{word_of}
use Rattle.deck.specs.DeckConditions.{max_lines}
use Rattle.deck.specs.DeckCase.{value_of}
use Rattle.sizes.specs.Sizes.{fields_per_line}
use Rattle.slots.specs.declared.Sort.TheVariants.{Composite}
use Rattle.lists.specs.Lists.{tabulate}
use Rattle.cases.specs.declared.Value.{Value}

-- field f, from 0, of a line
unfoldable pub value_in : List ℕ → ℕ → Value
value_in line f = value_of (word_of (field_in line (f + 1)))

-- field i, from 0, of a deck, its lines in turn
unfoldable pub value_at : List ℕ → ℕ → Value
value_at deck i = value_of (word_of (field_of deck (i / fields_per_line + 1) (i % fields_per_line + 1)))

-- the fields of the longest deck
abbrev pub max_fields : ℕ
max_fields = fields_per_line * max_lines Composite

-- all of a deck's; those that it lacks have no value
unfoldable pub values_of : List ℕ → List Value
values_of deck = tabulate max_fields (value_at deck)
