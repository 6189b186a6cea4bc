-- Laws of the table of slots: past its end are later slots; a record's places are its lines' fields; a slot that is found lies in its record
-- and is named as the entry there; no rule allows more than 1E+9; a sort of deck has a slot with its rule as written, or not at all.
-- Assumes nothing.
use Prim.Native.Nat.{ℕ, zero, suc, ◌+◌, ◌*◌, ◌/◌, ◌%◌, ◌≤◌, ◌<◌}
use native.Mathlib.Nat.{le_refl, mod-lt, div-add-mod}
use native.Mathlib.Omega.{arith}
use mathlib.Core.Path.{◌≡◌, refl, ap, ◌∙◌}
use mathlib.Core.Logic.{◌⊎◌, inl, inr}
use mathlib.Core.Bool.{Bool, true, false, cond, ◌&&◌, false≢true}
use mathlib.Core.List.{List, [], ◌∷◌, map}
use lib.Dec.{leb, lit≤, lit<}
use lib.ListN.{length, get_or, get_or-eq_default}
use borrow.Author.Tests.{leb-true}
use Rattle.lists.proofs.ListLaws.{read_any}
use Rattle.sizes.specs.Sizes.{fields_per_line, site_lines, slots_per_record}
use Rattle.slots.specs.declared.Owner.{Owner}
use Rattle.slots.specs.declared.Owner.TheVariants.{Site, Chemical, Receptor}
use Rattle.slots.specs.declared.Rule.{Rule}
use Rattle.slots.specs.declared.Sort.{Sort}
use Rattle.slots.specs.declared.Sort.TheVariants.{Ordinary, Composite}
use Rattle.slots.specs.Slots.{Entry, ◌is◌, ◌in_ordinary◌, ◌in_composite◌, Slot, unused, table, same, is_in, place_in, entry_rule, rule_in, rule_at, line_rules, owner_of, place_of, rule_of, rule_for}

-- past the table's end
pub later_rule : (sort : Sort) (o : Owner) (k : ℕ) → length (map (rule_in sort) (table o)) ≤ k → rule_at sort o k ≡ unused
unfolding rule_at
later_rule sort o k h = get_or-eq_default (map (rule_in sort) (table o)) unused h

pub later_line : (sort : Sort) (o : Owner) (n : ℕ) → length (map (rule_in sort) (table o)) ≤ 6 * n →
    line_rules sort o n ≡ unused ∷ unused ∷ unused ∷ unused ∷ unused ∷ unused ∷ []
unfolding line_rules
later_line sort o n h =
    rw (later_rule sort o (6 * n) h, later_rule sort o (6 * n + 1) (omega arith), later_rule sort o (6 * n + 2) (omega arith), later_rule sort o (6 * n + 3) (omega arith), later_rule sort o (6 * n + 4) (omega arith), later_rule sort o (6 * n + 5) (omega arith))
    refl

-- field r of a line, from 0, is a place of the record; place k is a field of line k / 6
line_rule : (sort : Sort) (o : Owner) (n r : ℕ) → r < 6 → get_or (line_rules sort o n) r unused ≡ rule_at sort o (6 * n + r)
unfolding line_rules
line_rule sort o n zero h = ap (rule_at sort o) (omega arith)
line_rule sort o n (suc zero) h = refl
line_rule sort o n (suc (suc zero)) h = refl
line_rule sort o n (suc (suc (suc zero))) h = refl
line_rule sort o n (suc (suc (suc (suc zero)))) h = refl
line_rule sort o n (suc (suc (suc (suc (suc zero))))) h = refl
line_rule sort o n (suc (suc (suc (suc (suc (suc r)))))) h = absurd (omega arith)

pub place_rule : (sort : Sort) (o : Owner) (k : ℕ) → get_or (line_rules sort o (k / 6)) (k % 6) unused ≡ rule_at sort o k
place_rule sort o k = line_rule sort o (k / 6) (k % 6) (mod-lt k (lit< tt)) ∙ ap (rule_at sort o) (div-add-mod k 6)

-- read from the rules of its line, whatever stands for a missing one
pub rule_read : (sort : Sort) (o : Owner) (k : ℕ) (rs : List Rule) (d : Rule) → rs ≡ line_rules sort o (k / 6) → get_or rs (k % 6) d ≡ rule_at sort o k
unfolding line_rules
rule_read sort o k rs d e = rw e (read_any (line_rules sort o (k / 6)) (k % 6) (mod-lt k (lit< tt)) d unused) ∙ place_rule sort o k

-- a place in a list, of n more entries where the first is not meant
most_of : (t : Bool) (p n : ℕ) → p ≤ n → cond t 0 (suc p) ≤ suc n
most_of true p n l = omega arith
most_of false p n l = omega arith

place_most : (es : List Entry) (s : Slot) → place_in es s ≤ length es
unfolding place_in
place_most [] s = le_refl 0
place_most ((name is rule) ∷ es) s = most_of (same name s) (place_in es s) (length es) (place_most es s)
place_most ((name in_ordinary rule) ∷ es) s = most_of (same name s) (place_in es s) (length es) (place_most es s)
place_most ((name in_composite rule) ∷ es) s = most_of (same name s) (place_in es s) (length es) (place_most es s)

below_of : (t u : Bool) (p n : ℕ) → (u ≡ true → p < n) → cond t true u ≡ true → cond t 0 (suc p) < suc n
below_of true u p n l h = omega arith
below_of false u p n l h = omega (arith, l h)

place_below : (es : List Entry) (s : Slot) → is_in es s ≡ true → place_in es s < length es
unfolding place_in is_in
place_below [] s h = absurd (false≢true h)
place_below ((name is rule) ∷ es) s h = below_of (same name s) (is_in es s) (place_in es s) (length es) (place_below es s) h
place_below ((name in_ordinary rule) ∷ es) s h = below_of (same name s) (is_in es s) (place_in es s) (length es) (place_below es s) h
place_below ((name in_composite rule) ∷ es) s h = below_of (same name s) (is_in es s) (place_in es s) (length es) (place_below es s) h

-- the name of an entry
unfoldable pub name_of : Entry → Slot
name_of (name is rule) = name
name_of (name in_ordinary rule) = name
name_of (name in_composite rule) = name

-- a slot that is in a list is spelled as the entry at its place
spelled_by : (name : Slot) (es : List Entry) (s : Slot) → (is_in es s ≡ true → same (get_or (map name_of es) (place_in es s) "") s ≡ true) →
    (t : Bool) → same name s ≡ t → cond t true (is_in es s) ≡ true → same (get_or (name ∷ map name_of es) (cond t 0 (suc (place_in es s))) "") s ≡ true
spelled_by name es s later true e h = e
spelled_by name es s later false e h = later h

pub spelled : (es : List Entry) (s : Slot) → is_in es s ≡ true → same (get_or (map name_of es) (place_in es s) "") s ≡ true
unfolding is_in place_in name_of
spelled [] s h = absurd (false≢true h)
spelled ((name is rule) ∷ es) s h = spelled_by name es s (spelled es s) (same name s) refl h
spelled ((name in_ordinary rule) ∷ es) s h = spelled_by name es s (spelled es s) (same name s) refl h
spelled ((name in_composite rule) ∷ es) s h = spelled_by name es s (spelled es s) (same name s) refl h

-- a site's slot lies in its two lines, any other in its four
unfoldable pub places : Owner → ℕ
places Site = fields_per_line * site_lines
places Chemical = slots_per_record
places Receptor = slots_per_record

inside_from : (s : Slot) (a b : Bool) → is_in (table Site) s ≡ a → is_in (table Chemical) s ≡ b →
    place_in (table (cond a Site (cond b Chemical Receptor))) s < places (cond a Site (cond b Chemical Receptor))
unfolding places table
inside_from s true b p q = omega (arith, place_below (table Site) s p)
inside_from s false true p q = omega (arith, place_below (table Chemical) s q)
inside_from s false false p q = omega (arith, place_most (table Receptor) s)

pub inside : (s : Slot) → place_of s < places (owner_of s)
unfolding place_of owner_of
inside s = inside_from s (is_in (table Site) s) (is_in (table Chemical) s) refl refl

-- no rule allows more than 1E+9
few : List Rule → Bool
few [] = true
few (r ∷ rs) = leb r.most 1000000000 && few rs

few_each : (rs : List Rule) → few rs ≡ true → (k : ℕ) → (get_or rs k unused).most ≤ 1000000000
unfolding few
few_each [] h k = lit≤ tt
few_each (r ∷ rs) h zero = go (leb r.most 1000000000) refl h
  where
    go : (t : Bool) → leb r.most 1000000000 ≡ t → (t && few rs) ≡ true → r.most ≤ 1000000000
    go true e h = leb-true r.most 1000000000 e
    go false e h = absurd (false≢true h)
few_each (r ∷ rs) h (suc k) = few_each rs (go (leb r.most 1000000000) h) k
  where
    go : (t : Bool) → (t && few rs) ≡ true → few rs ≡ true
    go true h = h
    go false h = absurd (false≢true h)

few_all : (o : Owner) → few (map entry_rule (table o)) ≡ true
unfolding few entry_rule table
few_all Site = refl
few_all Chemical = refl
few_all Receptor = refl

pub most_rule : (s : Slot) → (rule_of s).most ≤ 1000000000
unfolding rule_of
most_rule s = few_each (map entry_rule (table (owner_of s))) (few_all (owner_of s)) (place_of s)

-- in a deck of any sort a slot's rule is the one written, or the slot is a later one
entry_cases : (sort : Sort) (e : Entry) → (rule_in sort e ≡ entry_rule e) ⊎ (rule_in sort e ≡ unused)
unfolding rule_in entry_rule
entry_cases sort (name is rule) = inl refl
entry_cases Ordinary (name in_ordinary rule) = inl refl
entry_cases Composite (name in_ordinary rule) = inr refl
entry_cases Ordinary (name in_composite rule) = inr refl
entry_cases Composite (name in_composite rule) = inl refl

list_cases : (sort : Sort) (es : List Entry) (k : ℕ) →
    (get_or (map (rule_in sort) es) k unused ≡ get_or (map entry_rule es) k unused) ⊎ (get_or (map (rule_in sort) es) k unused ≡ unused)
list_cases sort [] k = inl refl
list_cases sort (e ∷ es) zero = entry_cases sort e
list_cases sort (e ∷ es) (suc k) = list_cases sort es k

pub rule_cases : (sort : Sort) (s : Slot) → (rule_for sort s ≡ rule_of s) ⊎ (rule_for sort s ≡ unused)
unfolding rule_for rule_at rule_of
rule_cases sort s = list_cases sort (table (owner_of s)) (place_of s)
