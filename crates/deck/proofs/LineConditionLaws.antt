-- Laws of a line's conditions: one for each way out of the functions that test them.
-- Assumes nothing.
use Prim.Native.Nat.{ℕ, ◌+◌, ◌-◌, ◌<◌}
use native.Mathlib.Omega.{arith}
use mathlib.Core.Path.{◌≡◌, refl, sym, ap, ◌∙◌}
use mathlib.Core.Bool.{Bool, true, false, false≢true, not, ◌&&◌, or-false}
use mathlib.Core.List.{List}
use borrow.Author.Tests.{eq-eqb, ne_eqb, eqb-true, not-true, not-false, le-leb, lt-leb, leb-true, leb-false}
use lib.Dec.{leb, eqb}
use lib.ListN.{length, get_or, take, drop}
use Rattle.spelling.specs.Columns.{within, leading}
use Rattle.deck.specs.Parts.{kind_width, columns, deck_line_width, kind_of}
use Rattle.kinds.specs.declared.Kind.TheVariants.{Start, Line, End, Other}
use Rattle.kinds.specs.Kinds.{letter, letter_of, is_line, is_end, begins, may_follow, line_owner}
use Rattle.cases.specs.Cases.{max_receptors}
use Rattle.sizes.specs.Sizes.{fields_per_line, max_chemicals}
use Rattle.std.specs.Prelude.{Option, Some, None, MatchOption}
use Rattle.slots.specs.declared.Owner.{Owner}
use Rattle.slots.specs.declared.Owner.TheVariants.{Site, Chemical, Receptor}
use Rattle.slots.specs.declared.Sort.{Sort}
use Rattle.kinds.specs.declared.Kind.{Kind}
use Rattle.deck.specs.declared.lines.Seen.{Seen}
use Rattle.cases.specs.Conditions.{Status, stopped, first, up_to}
use Rattle.deck.specs.DeckConditions.{field_at, bad_bytes, bad_kind, id_of, same_letter, not_above, unlike, wrong_id, bad_id, line_conditions_after}
use Rattle.lists.proofs.Booleans.{and-false}
use Rattle.spelling.proofs.Leading.{within_low, leads_on, leads_off}
use Rattle.lists.proofs.ListLaws.{tail_part}
use Rattle.kinds.proofs.KindLaws.{is_line_lem}

-- ---- 12
-- the first i + 1 bytes print where the first i do, and the one after them
step : (s : List ℕ) (i : ℕ) → i < length s → (t u : Bool) → leb i (leading 32 126 s) ≡ t → within 32 126 (get_or s i 0) ≡ u → (t && u) ≡ leb (i + 1) (leading 32 126 s)
step s i h true true p q = sym (le-leb (i + 1) (leading 32 126 s) (leads_on 32 126 s i h (leb-true i (leading 32 126 s) p) q))
step s i h true false p q = sym (lt-leb (i + 1) (leading 32 126 s) (omega (arith, leads_off 32 126 s i h (leb-true i (leading 32 126 s) p) q)))
step s i h false u p q = sym (lt-leb (i + 1) (leading 32 126 s) (omega (arith, leb-false i (leading 32 126 s) p)))

pub prints_on : (s : List ℕ) (i : ℕ) → i < length s → leb (i + 1) (leading 32 126 s) ≡ (leb i (leading 32 126 s) && within 32 126 (get_or s i 0))
prints_on s i h = sym (step s i h (leb i (leading 32 126 s)) (within 32 126 (get_or s i 0)) refl refl)

-- a line feed does not print, so no more than the columns before it do
feed : (line : List ℕ) → length line ≡ deck_line_width → (t : Bool) → eqb (get_or line columns 0) 10 ≡ t
    → (leb columns (leading 32 126 line) && t) ≡ (eqb (leading 32 126 line) columns && t)
feed line long false e = and-false _ ∙ sym (and-false _)
feed line long true e = go (leb columns (leading 32 126 line)) refl
  where
    b : get_or line columns 0 ≡ 10
    b = eqb-true (get_or line columns 0) 10 e

    go : (u : Bool) → leb columns (leading 32 126 line) ≡ u → (u && true) ≡ (eqb (leading 32 126 line) columns && true)
    go true p =
        let most = leads_off 32 126 line columns (omega arith) (leb-true columns (leading 32 126 line) p) (within_low 32 126 (get_or line columns 0) (omega (arith, b))) in
        simp (eq-eqb (leading 32 126 line) columns (omega (arith, leb-true columns (leading 32 126 line) p)))
    go false p = simp (ne_eqb (leading 32 126 line) columns (λ q. omega (arith, leb-false columns (leading 32 126 line) p)))

pub bytes_are : (line : List ℕ) → length line ≡ deck_line_width
    → bad_bytes line ≡ not (leb columns (leading 32 126 line) && eqb (get_or line columns 0) 10)
unfolding bad_bytes
bytes_are line long = ap not (sym (feed line long (eqb (get_or line columns 0) 10) refl))

-- whether the first i bytes print, as a loop over the columns keeps it: before the first, and one more
module _ (line : List ℕ) where
  pub printable_none : true ≡ leb 0 (leading 32 126 line)
  printable_none = sym (le-leb 0 (leading 32 126 line) (omega arith))

  pub printable_more : (i : ℕ) (all n : Bool) → i < length line → all ≡ leb i (leading 32 126 line) → n ≡ within 32 126 (get_or line i 0)
      → (all && n) ≡ leb (i + 1) (leading 32 126 line)
  printable_more i all n h p e = ap (λ (t : Bool). t && n) p ∙ ap (λ (t : Bool). leb i (leading 32 126 line) && t) e ∙ sym (prints_on line i h)

  -- a column does not print, or all do and the line feed tells
  module _ (long : length line ≡ deck_line_width) (n : Bool) (p : n ≡ leb columns (leading 32 126 line)) where
    pub bytes_count : n ≡ false → true ≡ bad_bytes line
    bytes_count h = sym (bytes_are line long ∙ ap (λ (t : Bool). not (t && eqb (get_or line columns 0) 10)) (sym p ∙ h))

    pub bytes_feed : n ≡ true → not (eqb (get_or line columns 0) 10) ≡ bad_bytes line
    bytes_feed h = sym (bytes_are line long ∙ ap (λ (t : Bool). not (t && eqb (get_or line columns 0) 10)) (sym p ∙ h))

-- ---- 21
-- a line begins a record of one owner
pub one_owner : (k : Kind) → is_line Chemical 0 k ≡ true → is_line Receptor 0 k ≡ false
unfolding is_line
one_owner k h = ap (is_line Receptor 0) (is_line_lem Chemical 0 k h)

module _ (sort : Sort) (seen : Seen) (kind : Kind) (r : Bool) (e : r ≡ may_follow seen.kind kind) where
  pub kind_out : not r ≡ true → true ≡ bad_kind sort seen kind
  unfolding bad_kind
  kind_out h = simp (sym e ∙ not-true r h)

  module _ (h : not r ≡ false) (c : Bool) (f : c ≡ is_line Chemical 0 kind) where
    pub many_chemicals : c ≡ true → leb max_chemicals seen.chemicals ≡ bad_kind sort seen kind
    unfolding bad_kind
    many_chemicals g = simp (sym e ∙ not-false r h, sym f ∙ g, one_owner kind (sym f ∙ g), or-false)

    module _ (g : c ≡ false) (d : Bool) (i : d ≡ is_line Receptor 0 kind) where
      pub many_receptors : d ≡ true → (m : ℕ) → m ≡ max_receptors sort → leb m seen.receptors ≡ bad_kind sort seen kind
      unfolding bad_kind
      many_receptors j m q = simp (sym e ∙ not-false r h, sym f ∙ g, sym i ∙ j) (ap (λ (x : ℕ). leb x seen.receptors) q)

      pub kind_right : d ≡ false → false ≡ bad_kind sort seen kind
      unfolding bad_kind
      kind_right j = simp (sym e ∙ not-false r h, sym f ∙ g, sym i ∙ j)

-- ---- 22
same_of : (o p : Owner) → eqb (letter o) (letter p) ≡ true → o ≡ p
same_of Site Site h = refl
same_of Site Chemical h = absurd (false≢true h)
same_of Site Receptor h = absurd (false≢true h)
same_of Chemical Site h = absurd (false≢true h)
same_of Chemical Chemical h = refl
same_of Chemical Receptor h = absurd (false≢true h)
same_of Receptor Site h = absurd (false≢true h)
same_of Receptor Chemical h = absurd (false≢true h)
same_of Receptor Receptor h = refl

letter_none : (o : Owner) → (eqb (letter o) 0 ≡ false) × (eqb 0 (letter o) ≡ false)
letter_none Site = (refl, refl)
letter_none Chemical = (refl, refl)
letter_none Receptor = (refl, refl)

-- two kinds of one letter stand in records of one owner, or in none
owners : (a b : Kind) → same_letter a b ≡ true → line_owner a ≡ line_owner b
unfolding same_letter
owners (Line o n) (Line p m) h = ap Some (same_of o p h)
owners (Line o n) Start h = absurd (false≢true (sym (letter_none o).0 ∙ h))
owners (Line o n) End h = absurd (false≢true (sym (letter_none o).0 ∙ h))
owners (Line o n) Other h = absurd (false≢true (sym (letter_none o).0 ∙ h))
owners Start (Line o n) h = absurd (false≢true (sym (letter_none o).1 ∙ h))
owners End (Line o n) h = absurd (false≢true (sym (letter_none o).1 ∙ h))
owners Other (Line o n) h = absurd (false≢true (sym (letter_none o).1 ∙ h))
owners Start Start h = refl
owners Start End h = refl
owners Start Other h = refl
owners End Start h = refl
owners End End h = refl
owners End Other h = refl
owners Other Start h = refl
owners Other End h = refl
owners Other Other h = refl

letters : (a : Kind) → letter_of a ≡ elim (line_owner a) [ Some o ↦ letter o | None ↦ 0 ]
letters (Line o n) = refl
letters Start = refl
letters End = refl
letters Other = refl

pub same_owner : (a b : Kind) → line_owner a ≡ line_owner b → same_letter a b ≡ true
unfolding same_letter
same_owner a b e =
    eq-eqb (letter_of a) (letter_of b) (letters a ∙ ap (λ (o : Option Owner). elim o [ Some o ↦ letter o | None ↦ 0 ]) e ∙ sym (letters b))

pub other_owner : (a b : Kind) → (line_owner a ≡ line_owner b → ⊥) → same_letter a b ≡ false
other_owner a b h = go (same_letter a b) refl
  where
    go : (t : Bool) → same_letter a b ≡ t → t ≡ false
    go true e = absurd (h (owners a b e))
    go false e = refl

-- no id; an id that begins a record, after a line of its letter or of another; an id within a record. The line before has an id, or none
module _ (seen : Seen) (kind : Kind) (id : Option ℕ) where
  pub id_none : id ≡ None → true ≡ wrong_id seen kind id
  unfolding wrong_id
  id_none h = rw h

  module _ (m : ℕ) (some : id ≡ Some m) (r : Bool) (e : r ≡ begins kind) where
    module _ (h : r ≡ true) (a b : ℕ) (p : a ≡ letter_of seen.kind) (q : b ≡ letter_of kind) where
      rises : a ≡ b → (x : Option ℕ) → seen.id ≡ x → MatchOption x (false ≡ wrong_id seen kind id) (λ before. leb m before ≡ wrong_id seen kind id)
      unfolding wrong_id same_letter not_above
      rises l None z = simp (some, sym e ∙ h, eq-eqb (letter_of seen.kind) (letter_of kind) (sym p ∙ l ∙ q), z)
      rises l (Some before) z = simp (some, sym e ∙ h, eq-eqb (letter_of seen.kind) (letter_of kind) (sym p ∙ l ∙ q), z)

      pub id_rises : a ≡ b → MatchOption seen.id (false ≡ wrong_id seen kind id) (λ before. leb m before ≡ wrong_id seen kind id)
      id_rises l = rises l seen.id refl

      pub id_first : (a ≡ b → ⊥) → false ≡ wrong_id seen kind id
      unfolding wrong_id same_letter
      id_first l = simp (some, sym e ∙ h, ne_eqb (letter_of seen.kind) (letter_of kind) (λ k. l (p ∙ k ∙ sym q)))

    same : r ≡ false → (x : Option ℕ) → seen.id ≡ x → MatchOption x (true ≡ wrong_id seen kind id) (λ before. not (eqb m before) ≡ wrong_id seen kind id)
    unfolding wrong_id unlike
    same h None z = simp (some, sym e ∙ h, z)
    same h (Some before) z = simp (some, sym e ∙ h, z)

    pub id_same : r ≡ false → MatchOption seen.id (true ≡ wrong_id seen kind id) (λ before. not (eqb m before) ≡ wrong_id seen kind id)
    id_same h = same h seen.id refl

module _ (seen : Seen) (kind : Kind) (line : List ℕ) (r : Bool) (e : r ≡ is_end kind) where
  pub end_blank : r ≡ true → (n : ℕ) → n ≡ leading 32 32 (take (length line - kind_width) (drop kind_width line)) → not (eqb n (columns - kind_width)) ≡ bad_id seen kind line
  unfolding bad_id
  end_blank h n f = simp (sym e ∙ h) (ap (λ (m : ℕ). not (eqb m (columns - kind_width))) (f ∙ ap (leading 32 32) (tail_part line kind_width)))

  pub other_id : r ≡ false → (id : Option ℕ) → id ≡ id_of line → (q : Bool) → q ≡ wrong_id seen kind id → q ≡ bad_id seen kind line
  unfolding bad_id
  other_id h id i q f = simp (sym e ∙ h) (f ∙ ap (wrong_id seen kind) i)

-- ---- a line
module _ (sort : Sort) (seen : Seen) (n : ℕ) (kind : Kind) (line : List ℕ) (k : kind ≡ kind_of line) where
  pub line_bytes : (r : Bool) → r ≡ bad_bytes line → r ≡ true → stopped 12 n 0 ≡ first (line_conditions_after sort seen line n)
  unfolding first line_conditions_after
  line_bytes r e h = simp (sym e ∙ h)

  module _ (r : Bool) (e : r ≡ bad_bytes line) (h : r ≡ false) (q : Bool) (f : q ≡ bad_kind sort seen kind) where
    kind_is : q ≡ bad_kind sort seen (kind_of line)
    kind_is = f ∙ ap (bad_kind sort seen) k

    pub line_kind : q ≡ true → stopped 21 n 0 ≡ first (line_conditions_after sort seen line n)
    unfolding first line_conditions_after
    line_kind g = simp (sym e ∙ h, sym kind_is ∙ g)

    module _ (g : q ≡ false) (p : Bool) (i : p ≡ bad_id seen kind line) where
      id_is : p ≡ bad_id seen (kind_of line) line
      id_is = i ∙ ap (λ (m : Kind). bad_id seen m line) k

      pub line_id : p ≡ true → stopped 22 n 0 ≡ first (line_conditions_after sort seen line n)
      unfolding first line_conditions_after
      line_id j = simp (sym e ∙ h, sym kind_is ∙ g, sym id_is ∙ j)

      pub line_fields : p ≡ false → (s : Status) → s ≡ first (up_to (field_at sort kind line n) fields_per_line) → s ≡ first (line_conditions_after sort seen line n)
      unfolding first line_conditions_after
      line_fields j s t = simp (sym e ∙ h, sym kind_is ∙ g, sym id_is ∙ j) (t ∙ ap (λ (m : Kind). first (up_to (field_at sort m line n) fields_per_line)) k)
