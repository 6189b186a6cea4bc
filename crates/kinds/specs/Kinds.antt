-- The kinds of lines (document 01, "Deck"): each is a line of an owner's record, spelled by the owner's letter and the line's digit, or EN; and
-- which kind may follow which.
-- Assumes nothing.
use Rattle.std.specs.Prelude.{ℕ, zero, suc, ◌+◌, ◌-◌, Bool, true, false, cond, ◌&&◌, ◌||◌, List, eqb, leb, ltb, replicate, Option, Some, None}
use Rattle.sizes.specs.Sizes.{site_lines, record_lines, fields_per_line}
use Rattle.slots.specs.Slots.{unused, line_rules}
use Rattle.slots.specs.declared.Owner.{Owner}
use Rattle.slots.specs.declared.Owner.TheVariants.{Site, Chemical, Receptor}
use Rattle.slots.specs.declared.Rule.{Rule}
use Rattle.slots.specs.declared.Sort.{Sort}
use Rattle.kinds.specs.declared.Kind.{Kind}
use Rattle.kinds.specs.declared.Kind.TheVariants.{Start, Line, End, Other}

-- ---- how a kind is spelled: S1, S2, C1 .., R1 .., EN
-- the letter of an owner's lines
abbrev pub letter : Owner → ℕ
letter Site = 83
letter Chemical = 67
letter Receptor = 82

-- how many lines an owner's record has
abbrev pub owner_lines : Owner → ℕ
owner_lines Site = site_lines
owner_lines Chemical = record_lines
owner_lines Receptor = record_lines

-- the digit of a record's first line, 1, and that of line n, from 0
abbrev pub first_digit : ℕ
first_digit = 49

abbrev pub line_digit : ℕ → ℕ
line_digit n = first_digit + n

-- the line of an owner's record with this digit
unfoldable pub numbered : Owner → ℕ → Kind
numbered o digit = cond (leb first_digit digit && ltb (digit - first_digit) (owner_lines o)) (Line o (digit - first_digit)) Other

abbrev pub spells_end : ℕ → ℕ → Bool
spells_end a b = eqb a 69 && eqb b 78

-- the kind that two bytes spell
unfoldable pub kind_in : ℕ → ℕ → Kind
kind_in a b =
    cond (eqb a (letter Site)) (numbered Site b)
    (cond (eqb a (letter Chemical)) (numbered Chemical b)
    (cond (eqb a (letter Receptor)) (numbered Receptor b)
    (cond (spells_end a b) End Other)))

-- ---- what a kind is
-- line n of an owner's record
unfoldable pub is_line : Owner → ℕ → Kind → Bool
is_line o n (Line p m) = eqb (letter o) (letter p) && eqb n m
is_line o n Start = false
is_line o n End = false
is_line o n Other = false

unfoldable pub is_last : Owner → Kind → Bool
is_last o kind = is_line o (owner_lines o - 1) kind

-- what stands before line 1
abbrev pub is_start : Kind → Bool
is_start (Line o n) = false
is_start Start = true
is_start End = false
is_start Other = false

abbrev pub is_end : Kind → Bool
is_end (Line o n) = false
is_end Start = false
is_end End = true
is_end Other = false

-- the first line of a record
abbrev pub begins : Kind → Bool
begins (Line o n) = eqb n 0
begins Start = false
begins End = false
begins Other = false

-- the letter of a record's line; 0 where it is none
abbrev pub letter_of : Kind → ℕ
letter_of (Line o n) = letter o
letter_of Start = 0
letter_of End = 0
letter_of Other = 0

-- whose record a line stands in
abbrev pub line_owner : Kind → Option Owner
line_owner (Line o n) = Some o
line_owner Start = None
line_owner End = None
line_owner Other = None

-- ---- which kind may follow which
-- what may stand before a record: the site comes first, chemicals follow it and one another, and receptors follow those and one another
unfoldable pub may_begin : Kind → Owner → Bool
may_begin before Site = is_start before
may_begin before Chemical = is_last Site before || is_last Chemical before
may_begin before Receptor = is_last Chemical before || is_last Receptor before

-- each line of a record follows the one before it; EN follows a receptor
unfoldable pub may_follow : Kind → Kind → Bool
may_follow before (Line o zero) = may_begin before o
may_follow before (Line o (suc n)) = is_line o n before
may_follow before Start = false
may_follow before End = is_last Receptor before
may_follow before Other = false

-- ---- the rules of a line's fields; a line of no record, as EN, has later slots alone
abbrev pub rules_of : Sort → Kind → List Rule
rules_of sort (Line o n) = line_rules sort o n
rules_of sort Start = replicate fields_per_line unused
rules_of sort End = replicate fields_per_line unused
rules_of sort Other = replicate fields_per_line unused
