-- Every value of an accepted case lies where the equations need it: a number that a field may spell, in its slot's range.
-- Assumes nothing.
use Prim.Native.Nat.{ℕ, suc, ◌+◌, ◌*◌, ◌-◌, ◌/◌, ◌%◌, ◌≤◌, ◌<◌}
use native.Mathlib.Nat.{mod-lt, add-sub_cancel}
use native.Mathlib.Omega.{arith}
use mathlib.Core.Path.{◌≡◌, refl, sym, ap, ◌∙◌, subst}
use mathlib.Core.Bool.{Bool, true, false, not, ◌||◌, true≢false}
use mathlib.Core.List.{List, [], ◌∷◌}
use borrow.Author.Tests.{not-false}
use lib.Dec.{lit<}
use lib.ListN.{get_or, replicate}
use Rattle.deck.specs.Parts.{lines_of, line_of, field_in, field_of, kind_of}
use Rattle.spelling.specs.Spelling.{word_of}
use Rattle.kinds.specs.Kinds.{owner_lines, rules_of}
use Rattle.cases.specs.Ranges.{in_range}
use Rattle.sizes.specs.Sizes.{fields_per_line, record_lines, slots_per_record, max_chemicals, most_stages}
use Rattle.slots.specs.Slots.{unused, rule_at, rule_for, owner_of, place_of}
use Rattle.slots.specs.declared.Owner.{Owner}
use Rattle.slots.specs.declared.Owner.TheVariants.{Site, Chemical, Receptor}
use Rattle.slots.specs.declared.Sort.{Sort}
use Rattle.kinds.specs.declared.Kind.{Kind}
use Rattle.kinds.specs.declared.Kind.TheVariants.{Line}
use Rattle.slots.proofs.SlotLaws.{places, place_rule, inside}
use Rattle.cases.specs.Conditions.{passed, at, first, up_to}
use Rattle.deck.specs.DeckConditions.{field_conditions, field_at, misspelled, misplaced, out_of_range, seen_in, conditions}
use Rattle.deck.specs.DeckCase.{chemicals_start, value_of, slot_spelled, record_of, records_of, case_with, case_of}
use Rattle.cases.specs.Cases.{no_record, value_at, chemical_at, receptor_at, owners_record, given}
use Rattle.cases.specs.Ranged.{Fits, Ranged}
use Rattle.slots.specs.declared.Rule.{Rule}
use Rattle.cases.specs.declared.Value.TheVariants.{Absent}
use Rattle.cases.specs.declared.Record.{Record}
use Rattle.spelling.specs.declared.Word.{Word}
use Rattle.spelling.specs.declared.Word.TheVariants.{Blank, Dash, Number, Other}
use Rattle.cases.proofs.FirstMet.{first_read, chained_each}
use Rattle.lists.proofs.Tabulated.{filled_at}
use Rattle.deck.proofs.LinePlaces.{begin, records, begin_some, line_facts, counts, line_inside, kind_of_lem}
use Rattle.deck.proofs.SpelledWords.{Small, field_small}

-- ---- a field of which no condition holds
blank_right : (d b : Bool) → not b ≡ false → (d || b) ≡ true
blank_right true b e = refl
blank_right false b e = not-false b e

dash_right : (d b : Bool) → not d ≡ false → (d || b) ≡ true
dash_right d b e = ap (λ (t : Bool). t || b) (not-false d e)

-- of the three conditions of a field, none holds
three : (rule : Rule) (w : Word) (n f : ℕ) → first (field_conditions rule w n f) ≡ passed
    → (misspelled w ≡ false) × ((misplaced rule w ≡ false) × (out_of_range rule w ≡ false))
unfolding field_conditions
three rule w n f e =
    let a = first_read (at 31 n f (misspelled w)) (at 32 n f (misplaced rule w) ∷ at 33 n f (out_of_range rule w) ∷ []) e in
    let b = first_read (at 32 n f (misplaced rule w)) (at 33 n f (out_of_range rule w) ∷ []) a.1 in
    (a.0, (b.0, (first_read (at 33 n f (out_of_range rule w)) [] b.1).0))

field_fits : (rule : Rule) (w : Word) (n f : ℕ) → Small w → first (field_conditions rule w n f) ≡ passed → Fits rule (value_of w)
unfolding misspelled misplaced out_of_range value_of
field_fits rule Blank n f s e = blank_right rule.dash rule.blank (three rule Blank n f e).1.0
field_fits rule Dash n f s e = dash_right rule.dash rule.blank (three rule Dash n f e).1.0
field_fits rule (Number digits power) n f s e =
    let t = three rule (Number digits power) n f e in
    (not-false rule.used t.1.0, not-false (in_range rule digits power) t.1.1, s)
field_fits rule Other n f s e = absurd (true≢false (three rule Other n f e).0)

record_slot : (deck : List ℕ) (n lines k : ℕ) → k < lines * fields_per_line → get_or (record_of deck n lines).slots k Absent ≡ slot_spelled deck n k
unfolding record_of
record_slot deck n lines k h = filled_at (slot_spelled deck n) Absent (lines * fields_per_line) (replicate (slots_per_record - lines * fields_per_line) Absent) k h

record_at_lem : (deck : List ℕ) (n count room i : ℕ) → i < count → get_or (records_of deck n count room) i no_record ≡ record_of deck (n + record_lines * i) record_lines
unfolding records_of
record_at_lem deck n count room i h = filled_at (λ j. record_of deck (n + record_lines * j) record_lines) no_record count (replicate (room - count) no_record) i h

-- an owner's slots stand in its lines
places_in : (o : Owner) → places o ≤ owner_lines o * fields_per_line
unfolding places
places_in Site = omega arith
places_in Chemical = omega arith
places_in Receptor = omega arith

-- ---- the law
module _ (sort : Sort) (deck : List ℕ) (e : first (conditions sort deck) ≡ passed) where
  -- slot k of an owner's record that begins at line n
  slot_fits : (o : Owner) (n k : ℕ) → 1 ≤ n → n + k / fields_per_line ≤ lines_of deck → kind_of (line_of deck (n + k / fields_per_line)) ≡ Line o (k / fields_per_line)
      → Fits (rule_at sort o k) (slot_spelled deck n k)
  unfolding slot_spelled field_of field_at
  slot_fits o n k s h q =
      let m = n + k / fields_per_line - 1 in
      let f = k % fields_per_line in
      let l = line_of deck (n + k / fields_per_line) in
      let line : line_of deck (suc m) ≡ l = ap (line_of deck) (omega arith) in
      let r = subst (λ (x : List ℕ). first (up_to (field_at sort (kind_of x) x (suc m)) fields_per_line) ≡ passed) line (line_facts sort deck e m (omega arith)).fields in
      let g = chained_each (λ j. field_at sort (kind_of l) l (suc m) (j + 1)) fields_per_line r f (mod-lt k (lit< tt)) in
      let rule : get_or (rules_of sort (kind_of l)) (f + 1 - 1) unused ≡ rule_at sort o k =
      ap (λ (x : ℕ). get_or (rules_of sort (kind_of l)) x unused) (add-sub_cancel f 1) ∙ ap (λ (x : Kind). get_or (rules_of sort x) f unused) q ∙ place_rule sort o k in
      subst (λ (x : Rule). Fits x (value_of (word_of (field_in l (f + 1))))) rule
      (field_fits (get_or (rules_of sort (kind_of l)) (f + 1 - 1) unused) (word_of (field_in l (f + 1))) (suc m) (f + 1) (field_small l (f + 1)) g)

  -- slot k of record i of an owner
  value_fits : (o : Owner) (i k : ℕ) → i < records o (seen_in deck (lines_of deck)).chemicals (seen_in deck (lines_of deck)).receptors → k < places o
      → (r : Record) → r ≡ record_of deck (begin o (seen_in deck (lines_of deck)).chemicals i) (owner_lines o) → Fits (rule_at sort o k) (value_at r k)
  unfolding value_at
  value_fits o i k h p r g =
      let n = begin o (seen_in deck (lines_of deck)).chemicals i in
      let b : k < owner_lines o * fields_per_line = omega (arith, places_in o) in
      let j : k / fields_per_line < owner_lines o = omega arith in
      subst (Fits (rule_at sort o k)) (sym (ap (λ (x : Record). get_or x.slots k Absent) g ∙ record_slot deck n (owner_lines o) k b))
      (slot_fits o n k (begin_some o _ i) (omega (arith, line_inside sort deck e o i (k / fields_per_line) h j)) (kind_of_lem sort deck e o i (k / fields_per_line) h j))

  owner_fits : (o : Owner) (j i k : ℕ) → j < (seen_in deck (lines_of deck)).receptors → i < (seen_in deck (lines_of deck)).chemicals → k < places o
      → Fits (rule_at sort o k) (value_at (owners_record o (case_of deck) j i) k)
  unfolding case_of case_with owners_record chemical_at receptor_at
  owner_fits Site j i k h l p = value_fits Site 0 k (omega arith) p _ refl
  owner_fits Chemical j i k h l p = value_fits Chemical i k l p _ (record_at_lem deck chemicals_start (seen_in deck (lines_of deck)).chemicals max_chemicals i l)
  owner_fits Receptor j i k h l p =
      value_fits Receptor j k h p _
      (record_at_lem deck (chemicals_start + record_lines * (seen_in deck (lines_of deck)).chemicals) (seen_in deck (lines_of deck)).receptors most_stages j h)

-- the case of every deck that is read
pub accepted : (sort : Sort) (deck : List ℕ) → first (conditions sort deck) ≡ passed → Ranged sort (case_of deck)
unfolding case_of case_with given rule_for
accepted sort deck e =
    record {
      some_chemicals = (counts sort deck e).0.0;
      few_chemicals = (counts sort deck e).0.1;
      some_receptors = (counts sort deck e).1.0;
      few_receptors = (counts sort deck e).1.1;
      fits = λ j i h l s. owner_fits sort deck e (owner_of s) j i (place_of s) h l (inside s);
    }
