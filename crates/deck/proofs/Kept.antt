-- Laws of the values that are kept while a deck is scanned: they stand line after line.
-- Assumes nothing.
use Prim.Native.Nat.{ℕ, zero, suc, ◌+◌, ◌*◌, ◌-◌, ◌/◌, ◌%◌, ◌≤◌, ◌<◌}
use native.Mathlib.Nat.{add-zero, add-suc}
use native.Mathlib.Numerals.{add-one}
use native.Mathlib.Omega.{arith}
use mathlib.Core.Path.{◌≡◌, refl, sym, ap, ◌∙◌}
use mathlib.Core.List.{List, [], ◌∷◌, ◌++◌, append_assoc, append-nil}
use lib.ListN.{length, get_or, take, drop, set, replicate, length-append, length-drop, length-replicate, replicate-append-replicate}
use lib.Seq.{take_at, drop_at, take_all, take-suc-set, ext_get_or}
use Rattle.std.proofs.lemmas.List.{get_or-take, get_or-drop, length-take-le}
use Rattle.spelling.specs.Columns.{leading}
use Rattle.deck.specs.Parts.{lines_of, line_of, field_of}
use Rattle.spelling.specs.Spelling.{word_of}
use Rattle.lists.specs.Lists.{tabulate}
use Rattle.sizes.specs.Sizes.{fields_per_line}
use Rattle.slots.specs.declared.Sort.TheVariants.{Composite}
use Rattle.deck.specs.DeckConditions.{max_lines}
use Rattle.deck.specs.DeckCase.{value_of, slot_spelled}
use Rattle.deck.specs.Inner.{value_in, value_at, max_fields, values_of}
use Rattle.cases.specs.declared.Value.{Value}
use Rattle.cases.specs.declared.Value.TheVariants.{Absent}
use Rattle.deck.proofs.PartLaws.{line_past}
use Rattle.deck.proofs.DeckCaseLaws.{field_none}
use Rattle.lists.proofs.Tabulated.{length_tabulate, tabulated, all_alike}

-- ---- a line's six values
module _ (line : List ℕ) where
  pub fields_more : (values : List Value) (f : ℕ) (v : Value) → f < length values → v ≡ value_in line f
      → take f values ≡ tabulate f (value_in line) → take (f + 1) (set values f v) ≡ tabulate (f + 1) (value_in line)
  unfolding tabulate
  fields_more values f v h g e =
      rw add-one
      (take-suc-set values f v h
      ∙ ap (λ (l : List Value). l ++ (v ∷ [])) e
      ∙ ap (λ (x : Value). tabulate f (value_in line) ++ (x ∷ [])) g)

  pub fields_all : (values : List Value) (f : ℕ) → length values ≡ fields_per_line → f ≡ fields_per_line → take f values ≡ tabulate f (value_in line)
      → values ≡ tabulate fields_per_line (value_in line)
  fields_all values f l n e = sym (take_all fields_per_line values (omega arith)) ∙ (rw n at e)

-- ---- line after line
module _ {A : Type 0} where
  pub tabulate_append : (f g : ℕ → A) (a b : ℕ) → ((i : ℕ) → i < b → g i ≡ f (a + i)) → tabulate a f ++ tabulate b g ≡ tabulate (a + b) f
  unfolding tabulate
  tabulate_append f g a zero e = rw add-zero (append-nil (tabulate a f))
  tabulate_append f g a (suc b) e =
      rw add-suc
      (sym (append_assoc (tabulate a f) (tabulate b g) (g b ∷ []))
      ∙ ap (λ (l : List A). l ++ (g b ∷ [])) (tabulate_append f g a b (λ i h. e i (omega arith)))
      ∙ ap (λ (x : A). tabulate (a + b) f ++ (x ∷ [])) (e b (omega arith)))

  pub drop_replicate : (a b : ℕ) (x : A) → drop a (replicate (a + b) x) ≡ replicate b x
  drop_replicate a b x = ap (drop a) (sym (replicate-append-replicate a b x)) ∙ drop_at (replicate a x) (replicate b x) a (length-replicate a x)

module _ (deck : List ℕ) where
  -- the values so far, and room for the others
  abbrev pub Kept : ℕ → List Value → Type 0
  Kept n values = values ≡ tabulate (fields_per_line * n) (value_at deck) ++ replicate (max_fields - fields_per_line * n) Absent

  pub kept_none : (values : List Value) → values ≡ replicate max_fields Absent → Kept 0 values
  unfolding tabulate
  kept_none values e = e

  pub kept_room : (n : ℕ) (values : List Value) → n ≤ max_lines Composite → Kept n values → length values ≡ max_fields
  kept_room n values h k =
      ap length k
      ∙ length-append (tabulate (fields_per_line * n) (value_at deck)) (replicate (max_fields - fields_per_line * n) Absent)
      ∙ omega (arith, length_tabulate (value_at deck) Absent 0 (fields_per_line * n), length-replicate {A = Value} (max_fields - fields_per_line * n) Absent)

  kept_line_lem : (n i : ℕ) → i < fields_per_line → value_in (line_of deck (n + 1)) i ≡ value_at deck (fields_per_line * n + i)
  unfolding value_in value_at field_of
  kept_line_lem n i h =
      let d : (fields_per_line * n + i) / fields_per_line ≡ n = omega arith in
      let m : (fields_per_line * n + i) % fields_per_line ≡ i = omega arith in
      rw (d, m) refl

  -- a line more, whose six places were lent and came back as its values
  pub kept_more : (n : ℕ) (line : List ℕ) (values last : List Value) → n < max_lines Composite → line ≡ line_of deck (n + 1)
      → last ≡ tabulate fields_per_line (value_in line) → Kept n values
      → Kept (n + 1) (take (fields_per_line * n) values ++ (last ++ drop (fields_per_line * n + fields_per_line - fields_per_line * n) (drop (fields_per_line * n) values)))
  kept_more n line values last h e l k =
      let at : ℕ = fields_per_line * n in
      let left : ℕ = max_fields - fields_per_line * (n + 1) in
      let front_len = length_tabulate (value_at deck) Absent 0 at in
      let front : take at values ≡ tabulate at (value_at deck) = ap (take at) k ∙ take_at (tabulate at (value_at deck)) (replicate (max_fields - at) Absent) at front_len in
      let room : max_fields - at ≡ fields_per_line + left = omega arith in
      let back : drop fields_per_line (drop at values) ≡ replicate left Absent =
      ap (drop fields_per_line)
      (ap (drop at) k ∙ drop_at (tabulate at (value_at deck)) (replicate (max_fields - at) Absent) at front_len ∙ ap (λ (m : ℕ). replicate m Absent) room)
      ∙ drop_replicate fields_per_line left Absent in
      let cut : at + fields_per_line - at ≡ fields_per_line = omega arith in
      let past : at + fields_per_line ≡ fields_per_line * (n + 1) = omega arith in
      let line_is : last ≡ tabulate fields_per_line (value_in (line_of deck (n + 1))) = l ∙ ap (λ (x : List ℕ). tabulate fields_per_line (value_in x)) e in
      rw (cut, front, back, line_is)
      (sym (append_assoc (tabulate at (value_at deck)) _ (replicate left Absent))
      ∙ ap (λ (x : List Value). x ++ replicate left Absent)
      (tabulate_append (value_at deck) (value_in (line_of deck (n + 1))) at fields_per_line (kept_line_lem n) ∙ ap (λ (m : ℕ). tabulate m (value_at deck)) past))

  lacking : (i : ℕ) → fields_per_line * lines_of deck ≤ i → Absent ≡ value_at deck i
  unfolding value_at value_of lines_of word_of leading
  lacking i h =
      let none = line_past deck (i / fields_per_line + 1) (omega arith) in
      ap (λ (part : List ℕ). value_of (word_of part)) (field_none deck (i / fields_per_line + 1) (i % fields_per_line + 1) [] none refl)

  pub kept_all : (n : ℕ) (values : List Value) → n ≤ max_lines Composite → n ≡ lines_of deck → Kept n values → values ≡ values_of deck
  unfolding values_of
  kept_all n values h e k =
      let room : fields_per_line * n + (max_fields - fields_per_line * n) ≡ max_fields = omega arith in
      k
      ∙ ap (λ (l : List Value). tabulate (fields_per_line * n) (value_at deck) ++ l) (all_alike Absent (max_fields - fields_per_line * n))
      ∙ tabulate_append (value_at deck) (λ i. Absent) (fields_per_line * n) (max_fields - fields_per_line * n) (λ i p. lacking (fields_per_line * n + i) (omega arith))
      ∙ ap (λ (m : ℕ). tabulate m (value_at deck)) room

  pub kept_length : (values : List Value) → values ≡ values_of deck → length values ≡ max_fields
  unfolding values_of
  kept_length values e = ap length e ∙ length_tabulate (value_at deck) Absent 0 max_fields

  -- slot k of the record that begins at line n
  pub slot_kept : (values : List Value) (n lines k : ℕ) (d : Value) → values ≡ values_of deck → 1 ≤ n → n + lines ≤ max_lines Composite → k < lines * fields_per_line
      → get_or values (fields_per_line * (n - 1) + k) d ≡ slot_spelled deck n k
  unfolding values_of value_at slot_spelled field_of
  slot_kept values n lines k d e p q h =
      let i = fields_per_line * (n - 1) + k in
      let there : get_or values i d ≡ value_at deck i = ap (λ (l : List Value). get_or l i d) e ∙ tabulated (value_at deck) d max_fields i (omega arith) in
      let line : i / fields_per_line + 1 ≡ n + k / fields_per_line = omega arith in
      let place : i % fields_per_line ≡ k % fields_per_line = omega arith in
      there ∙ rw (line, place) refl

  -- the slots of the record that begins at line n, as they stand among the values
  pub part_kept : (values : List Value) (n lines : ℕ) → values ≡ values_of deck → 1 ≤ n → n + lines ≤ max_lines Composite
      → take (lines * fields_per_line) (drop (fields_per_line * (n - 1)) values) ≡ tabulate (lines * fields_per_line) (slot_spelled deck n)
  part_kept values n lines e p q =
      let count : ℕ = lines * fields_per_line in
      let at : ℕ = fields_per_line * (n - 1) in
      let room = kept_length values e in
      let long : length (take count (drop at values)) ≡ count = length-take-le count (drop at values) (omega (arith, length-drop at values, room)) in
      ext_get_or Absent (take count (drop at values)) (tabulate count (slot_spelled deck n)) (long ∙ sym (length_tabulate (slot_spelled deck n) Absent 0 count))
      (λ k h.
      let here : k < count = omega (arith, long) in
      get_or-take count (drop at values) k Absent here
      ∙ get_or-drop at values k Absent
      ∙ slot_kept values n lines k Absent e p q here
      ∙ sym (tabulated (slot_spelled deck n) Absent count k here))

pub none_kept : replicate max_fields Absent ≡ values_of []
unfolding lines_of
none_kept = kept_all [] 0 (replicate max_fields Absent) (omega arith) refl (kept_none [] (replicate max_fields Absent) refl)
