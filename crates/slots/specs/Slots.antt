-- The slots of each record, in deck order, by document 01's names, with their rules ("Deck"). This is the only table of them: whose record a
-- slot stands in, its place there, in which sort of deck, whether it may be 0 or above 1, and what it may hold are read off it by name.
-- Assumes nothing.
use Rattle.std.specs.Prelude.{ℕ, suc, ◌+◌, ◌*◌, Bool, true, false, cond, not, List, [], ◌∷◌, map, leb, eqb, get_or}
use Prim.Native.Char.{code}
use Prim.Native.String.{String, [] as ε, ◌∷◌ as ◌◂◌}
use Rattle.slots.specs.declared.Owner.{Owner}
use Rattle.slots.specs.declared.Owner.TheVariants.{Site, Chemical, Receptor}
use Rattle.slots.specs.declared.Guidance.{Guidance}
use Rattle.slots.specs.declared.Guidance.TheVariants.{Of2005, Of2009}
use Rattle.slots.specs.declared.Rule.{Rule}
use Rattle.slots.specs.declared.Sort.{Sort}
use Rattle.slots.specs.declared.Sort.TheVariants.{Ordinary, Composite}
use Rattle.sizes.specs.Sizes.{fields_per_line}

-- A slot is named as in document 01.
abbrev pub Slot : Type 0
Slot = String

-- The guidance that a sheet follows, named by its year (document 02, P6): HHRAP of 2005, or for the air RAGS Part F of 2009.
unfoldable pub year_of : Guidance → ℕ
year_of Of2005 = 2005
year_of Of2009 = 2009

-- A slot's rule: used, or a later slot; blank allowed; - allowed; 0 allowed; the largest value; one of the two years alone. 1E+9 is the largest
-- anywhere.
abbrev pub amount : Rule
amount = record { used = true; blank = false; dash = false; zero = true; most = 1000000000; year = false }

-- never 0
abbrev pub positive : Rule
positive = record { used = true; blank = false; dash = false; zero = false; most = 1000000000; year = false }

-- at most 1
abbrev pub share : Rule
share = record { used = true; blank = false; dash = false; zero = true; most = 1; year = false }

-- at most 366
abbrev pub days : Rule
days = record { used = true; blank = false; dash = false; zero = true; most = 366; year = false }

-- never 0, or -
abbrev pub reference_value : Rule
reference_value = record { used = true; blank = false; dash = true; zero = false; most = 1000000000; year = false }

-- 0 too, or -
abbrev pub slope : Rule
slope = record { used = true; blank = false; dash = true; zero = true; most = 1000000000; year = false }

-- 2005 or 2009, or blank
abbrev pub guidance_year : Rule
guidance_year = record { used = true; blank = true; dash = false; zero = false; most = 1000000000; year = true }

-- a later slot, which is blank
abbrev pub unused : Rule
unused = record { used = false; blank = true; dash = false; zero = false; most = 0; year = false }

-- a slot of every deck; one of an ordinary deck, in a composite's a later slot; one of a composite's deck, in an ordinary one a later slot
infix 95 ◌is◌
infix 95 ◌in_ordinary◌
infix 95 ◌in_composite◌
pub data Entry : Type 0 where
  ◌is◌ : Slot → Rule → Entry
  ◌in_ordinary◌ : Slot → Rule → Entry
  ◌in_composite◌ : Slot → Rule → Entry

-- the slots of a record, from its first; what follows them are later slots
unfoldable pub table : Owner → List Entry
table Site =
    "Zs" is positive ∷ "BD" is positive ∷ "tD" is positive ∷ "θ" is positive ∷ "Xe" is amount ∷ "SD" is amount
    ∷ "ER" is amount ∷ "RO" is amount ∷ "R" is amount ∷ "VG" is share ∷ "FRsnow" is share ∷ "year" is guidance_year
    ∷ []
table Chemical =
    "Q" is amount ∷ "HgA" is share ∷ "HgD" is share ∷ "Fv" is share ∷ "Cyv" is amount ∷ "Cyp" is amount
    ∷ "Dydv" is amount ∷ "Dywv" is amount ∷ "Dydp" is amount ∷ "Dywp" is amount ∷ "Kds" is positive ∷ "ksg" is amount
    ∷ "ksv" is amount ∷ "Br" is amount ∷ "RCF" is amount ∷ "AFinh" is share ∷ "AForal" is share ∷ "AFderm" is share
    ∷ "RfDo" is reference_value ∷ "RfDi" is reference_value ∷ "CSFo" is slope ∷ "CSFi" is slope
    ∷ []
table Receptor =
    "BW" is positive ∷ "ED" is positive ∷ "ATc" is positive ∷ "IRinh" is amount ∷ "ETinh" is share ∷ "EFinh" is days
    ∷ "IRsoil" is amount ∷ "ETsoil" is share ∷ "EFs" is days ∷ "EFw" is days ∷ "SAb" is amount ∷ "SAFb" is amount
    ∷ "SAh" is amount ∷ "SAFh" is amount ∷ "ETderm" is share ∷ "IRag" is amount ∷ "Fag" is share ∷ "IRbg" is amount
    ∷ "Fbg" is share ∷ "WP" is share ∷ "EFp" is days ∷ "T2" in_ordinary positive ∷ "years" in_composite positive
    ∷ []

-- two names are spelled alike
unfoldable pub same : String → String → Bool
same ε ε = true
same ε (d ◂ t) = false
same (c ◂ s) ε = false
same (c ◂ s) (d ◂ t) = cond (eqb (code c) (code d)) (same s t) false

-- whether a slot is in a list, and its place there, from 0
unfoldable pub is_in : List Entry → Slot → Bool
is_in [] s = false
is_in ((name is rule) ∷ rest) s = cond (same name s) true (is_in rest s)
is_in ((name in_ordinary rule) ∷ rest) s = cond (same name s) true (is_in rest s)
is_in ((name in_composite rule) ∷ rest) s = cond (same name s) true (is_in rest s)

unfoldable pub place_in : List Entry → Slot → ℕ
place_in [] s = 0
place_in ((name is rule) ∷ rest) s = cond (same name s) 0 (suc (place_in rest s))
place_in ((name in_ordinary rule) ∷ rest) s = cond (same name s) 0 (suc (place_in rest s))
place_in ((name in_composite rule) ∷ rest) s = cond (same name s) 0 (suc (place_in rest s))

-- an entry's rule as written, and in a deck of this sort
unfoldable pub entry_rule : Entry → Rule
entry_rule (name is rule) = rule
entry_rule (name in_ordinary rule) = rule
entry_rule (name in_composite rule) = rule

unfoldable pub rule_in : Sort → Entry → Rule
rule_in sort (name is rule) = rule
rule_in Ordinary (name in_ordinary rule) = rule
rule_in Composite (name in_ordinary rule) = unused
rule_in Ordinary (name in_composite rule) = unused
rule_in Composite (name in_composite rule) = rule

-- the rule of a record's place, from 0
unfoldable pub rule_at : Sort → Owner → ℕ → Rule
rule_at sort o k = get_or (map (rule_in sort) (table o)) k unused

-- slots are filled line by line: the rules of the fields of a record's line n, from 0
unfoldable pub line_rules : Sort → Owner → ℕ → List Rule
line_rules sort o n =
    let k : ℕ = fields_per_line * n in
    rule_at sort o k ∷ rule_at sort o (k + 1) ∷ rule_at sort o (k + 2) ∷ rule_at sort o (k + 3) ∷ rule_at sort o (k + 4) ∷ rule_at sort o (k + 5) ∷ []

-- whose slot it is, its place in the record, and its rule as written
unfoldable pub owner_of : Slot → Owner
owner_of s = cond (is_in (table Site) s) Site (cond (is_in (table Chemical) s) Chemical Receptor)

unfoldable pub place_of : Slot → ℕ
place_of s = place_in (table (owner_of s)) s

unfoldable pub rule_of : Slot → Rule
rule_of s = get_or (map entry_rule (table (owner_of s))) (place_of s) unused

-- its rule in a deck of this sort
unfoldable pub rule_for : Sort → Slot → Rule
rule_for sort s = rule_at sort (owner_of s) (place_of s)

-- Never 0
unfoldable pub never_zero : Slot → Bool
never_zero s = not (rule_of s).zero

-- At most 1
unfoldable pub at_most_one : Slot → Bool
at_most_one s = leb (rule_of s).most 1
