-- Where a deck stops (document 01): the conditions 11 to 33 as one ordered list, for a deck of either sort. A deck is read exactly where none
-- holds. Later stages append their own conditions to this list.
-- Assumes nothing.
use Rattle.std.specs.Prelude.{ℕ, zero, suc, ◌+◌, ◌*◌, ◌-◌, ◌%◌, Bool, true, false, cond, not, ◌&&◌, ◌||◌, List, [], ◌∷◌, ◌++◌, leb, ltb, eqb, length, get_or, take, drop, Option, Some, None}
use Rattle.deck.specs.Parts.{deck_line_width, columns, kind_width, lines_of, line_of, field_in, kind_of}
use Rattle.spelling.specs.Columns.{id_width, leading}
use Rattle.spelling.specs.Spelling.{id_in, word_of}
use Rattle.kinds.specs.Kinds.{is_line, is_end, begins, letter_of, may_follow, rules_of}
use Rattle.sizes.specs.Sizes.{max_chemicals, site_lines, record_lines, fields_per_line}
use Rattle.cases.specs.Cases.{max_receptors}
use Rattle.cases.specs.Ranges.{in_range}
use Rattle.slots.specs.Slots.{unused}
use Rattle.slots.specs.declared.Owner.{Owner}
use Rattle.slots.specs.declared.Owner.TheVariants.{Chemical, Receptor}
use Rattle.slots.specs.declared.Rule.{Rule}
use Rattle.slots.specs.declared.Sort.{Sort}
use Rattle.kinds.specs.declared.Kind.{Kind}
use Rattle.kinds.specs.declared.Kind.TheVariants.{Start}
use Rattle.deck.specs.declared.lines.Seen.{Seen}
use Rattle.spelling.specs.declared.Word.{Word}
use Rattle.spelling.specs.declared.Word.TheVariants.{Blank, Dash, Number, Other}
use Rattle.cases.specs.Conditions.{Condition, at, up_to}

-- ---- a field: 31, 32, 33
unfoldable pub misspelled : Word → Bool
misspelled Blank = false
misspelled Dash = false
misspelled (Number digits power) = false
misspelled Other = true

-- blank in a needed slot, - not allowed, or a later slot not blank
unfoldable pub misplaced : Rule → Word → Bool
misplaced rule Blank = not rule.blank
misplaced rule Dash = not rule.dash
misplaced rule (Number digits power) = not rule.used
misplaced rule Other = false

unfoldable pub out_of_range : Rule → Word → Bool
out_of_range rule Blank = false
out_of_range rule Dash = false
out_of_range rule (Number digits power) = not (in_range rule digits power)
out_of_range rule Other = false

unfoldable pub field_conditions : Rule → Word → ℕ → ℕ → List Condition
field_conditions rule word n f = at 31 n f (misspelled word) ∷ at 32 n f (misplaced rule word) ∷ at 33 n f (out_of_range rule word) ∷ []

-- field f of line n, which is of this kind
unfoldable pub field_at : Sort → Kind → List ℕ → ℕ → ℕ → List Condition
field_at sort kind line n f = field_conditions (get_or (rules_of sort kind) (f - 1) unused) (word_of (field_in line f)) n f

-- ---- a line: 12, 21, 22, then its fields from the left
-- byte 81 no line feed, or another byte outside 32-126
unfoldable pub bad_bytes : List ℕ → Bool
bad_bytes line = not (eqb (leading 32 126 line) columns && eqb (get_or line columns 0) 10)

-- a kind that cannot come next; seen is what the lines before tell
unfoldable pub bad_kind : Sort → Seen → Kind → Bool
bad_kind sort seen kind =
    not (may_follow seen.kind kind)
    || is_line Chemical 0 kind && leb max_chemicals seen.chemicals
    || is_line Receptor 0 kind && leb (max_receptors sort) seen.receptors

-- columns 3-8
unfoldable pub id_of : List ℕ → Option ℕ
id_of line = id_in (take id_width (drop kind_width line))

-- two kinds have one letter
unfoldable pub same_letter : Kind → Kind → Bool
same_letter a b = eqb (letter_of a) (letter_of b)

-- an id is not above the one before, if there is one, and is unlike it
unfoldable pub not_above : ℕ → Option ℕ → Bool
not_above id None = false
not_above id (Some before) = leb id before

unfoldable pub unlike : ℕ → Option ℕ → Bool
unlike id None = true
unlike id (Some before) = not (eqb id before)

-- an id misspelled, unlike its record's, or not above the one before
unfoldable pub wrong_id : Seen → Kind → Option ℕ → Bool
wrong_id seen kind None = true
wrong_id seen kind (Some id) = cond (begins kind) (same_letter seen.kind kind && not_above id seen.id) (unlike id seen.id)

-- a wrong id, or EN not blank
unfoldable pub bad_id : Seen → Kind → List ℕ → Bool
bad_id seen kind line = cond (is_end kind) (not (eqb (leading 32 32 (drop kind_width line)) (columns - kind_width))) (wrong_id seen kind (id_of line))

-- line n, after lines that tell this
unfoldable pub line_conditions_after : Sort → Seen → List ℕ → ℕ → List Condition
line_conditions_after sort seen line n =
    at 12 n 0 (bad_bytes line)
    ∷ at 21 n 0 (bad_kind sort seen (kind_of line))
    ∷ at 22 n 0 (bad_id seen (kind_of line) line)
    ∷ up_to (field_at sort (kind_of line) line n) fields_per_line

-- ---- the deck
-- one more where this kind begins a record of the owner
unfoldable pub begun_with : Owner → Kind → ℕ → ℕ
begun_with o kind n = cond (is_line o 0 kind) (suc n) n

-- with a line of this kind and id more
unfoldable pub seen_with : Seen → Kind → Option ℕ → Seen
seen_with seen kind id =
    record {
      kind = kind;
      id = id;
      chemicals = begun_with Chemical kind seen.chemicals;
      receptors = begun_with Receptor kind seen.receptors;
    }

-- what the lines 1 to n tell: the kind and id of the last, and how many chemicals and receptors began
unfoldable pub seen_in : List ℕ → ℕ → Seen
seen_in deck zero = record { kind = Start; id = None; chemicals = 0; receptors = 0 }
seen_in deck (suc n) = seen_with (seen_in deck n) (kind_of (line_of deck (suc n))) (id_of (line_of deck (suc n)))

unfoldable pub line_conditions : Sort → List ℕ → ℕ → List Condition
line_conditions sort deck n = line_conditions_after sort (seen_in deck (n - 1)) (line_of deck n) n

-- the lines of the site, all chemicals and receptors, and EN
abbrev pub max_lines : Sort → ℕ
max_lines sort = site_lines + record_lines * (max_chemicals + max_receptors sort) + 1

-- 6,723 bytes, or a composite's 8,019
abbrev pub max_length : Sort → ℕ
max_length sort = deck_line_width * max_lines sort

-- length 0, above the most, or no multiple of 81
unfoldable pub bad_length : Sort → List ℕ → Bool
bad_length sort deck = eqb (length deck) 0 || ltb (max_length sort) (length deck) || not (eqb (length deck % deck_line_width) 0)

-- no EN at the deck's end, told as the line past the last
unfoldable pub no_end : List ℕ → Bool
no_end deck = not (is_end (kind_of (line_of deck (lines_of deck))))

unfoldable pub conditions : Sort → List ℕ → List Condition
conditions sort deck =
    at 11 0 0 (bad_length sort deck)
    ∷ up_to (line_conditions sort deck) (lines_of deck)
    ++ (at 21 (lines_of deck + 1) 0 (no_end deck) ∷ [])
