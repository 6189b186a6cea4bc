-- Laws of the lines in turn: what the code carries from line to line is what the lines before say.
-- Assumes nothing.
use Prim.Native.Nat.{ℕ, zero, suc, ◌+◌, ◌*◌, ◌-◌, ◌/◌, ◌%◌, ◌≤◌, ◌<◌}
use native.Mathlib.Nat.{add-sub_cancel, le_antisymm}
use native.Mathlib.Numerals.{add-one}
use native.Mathlib.Omega.{arith}
use mathlib.Core.Path.{◌≡◌, refl, sym, ap, ◌∙◌, subst}
use mathlib.Core.Bool.{Bool, true, false, cond, not, ◌&&◌, ◌||◌}
use mathlib.Core.List.{List, [], ◌∷◌, ◌++◌}
use borrow.Author.Tests.{not-false, eq-eqb, ne_eqb, lt-ltb, le-ltb, leb-false, ltb-false}
use lib.Dec.{leb, ltb, eqb}
use lib.ListN.{length, get_or, take, drop, length-take, length-drop}
use Rattle.std.specs.Prelude.{Option, None, Err}
use Rattle.cases.specs.declared.Stop.{Stop}
use Rattle.std.specs.Simd.{first_chunks}
use Rattle.std.proofs.lemmas.List.{drop-drop}
use Rattle.spelling.specs.Columns.{within}
use Rattle.deck.specs.Parts.{deck_line_width, lines_of, line_of, kind_of}
use Rattle.kinds.specs.Kinds.{kind_in, is_line, is_end, may_follow}
use Rattle.cases.specs.Cases.{max_receptors}
use Rattle.sizes.specs.Sizes.{fields_per_line, max_chemicals, most_stages}
use Rattle.slots.specs.declared.Owner.TheVariants.{Chemical, Receptor}
use Rattle.slots.specs.declared.Sort.{Sort}
use Rattle.kinds.specs.declared.Kind.{Kind}
use Rattle.kinds.specs.declared.Kind.TheVariants.{Start}
use Rattle.deck.specs.declared.lines.Seen.{Seen}
use Rattle.slots.specs.declared.Sort.TheVariants.{Ordinary, Composite}
use Rattle.lists.specs.Lists.{chained}
use Rattle.cases.specs.Conditions.{Status, passed, stopped, Condition, at, first, up_to}
use Rattle.deck.specs.DeckConditions.{field_at, bad_bytes, bad_kind, bad_id, id_of, line_conditions_after, begun_with, seen_with, seen_in, line_conditions, max_length, bad_length, no_end}
use Rattle.deck.proofs.PartLaws.{line_is}
use Rattle.deck.proofs.DeckCaseLaws.{line_full}
use Rattle.cases.proofs.FirstMet.{or_else, first_append, goes_on, stops, first_read}
use Rattle.lists.proofs.Booleans.{neither}

-- what a line that stops nothing tells
pub record LineRead (sort : Sort) (seen : Seen) (n : ℕ) (line : List ℕ) : Type 0 where
  pub bytes : bad_bytes line ≡ false
  pub kind : bad_kind sort seen (kind_of line) ≡ false
  pub id : bad_id seen (kind_of line) line ≡ false
  pub fields : first (up_to (field_at sort (kind_of line) line n) fields_per_line) ≡ passed

pub line_read : (sort : Sort) (seen : Seen) (n : ℕ) (line : List ℕ) → first (line_conditions_after sort seen line n) ≡ passed → LineRead sort seen n line
unfolding line_conditions_after
line_read sort seen n line e =
    let a = first_read _ _ e in
    let b = first_read _ _ a.1 in
    let c = first_read _ _ b.1 in
    record { bytes = a.0; kind = b.0; id = c.0; fields = c.1 }

-- a case has room for the receptors of either sort
pub in_room : (sort : Sort) → max_receptors sort ≤ most_stages
in_room Ordinary = omega arith
in_room Composite = omega arith

few_with : (t : Bool) (n m : ℕ) → n ≤ m → (t && leb m n) ≡ false → cond t (suc n) n ≤ m
few_with true n m h e = leb-false m n e
few_with false n m h e = h

module _ (sort : Sort) (seen : Seen) (kind : Kind) (e : bad_kind sort seen kind ≡ false) where
  parts : (may_follow seen.kind kind ≡ true)
      × ((is_line Chemical 0 kind && leb max_chemicals seen.chemicals) ≡ false)
      × ((is_line Receptor 0 kind && leb (max_receptors sort) seen.receptors) ≡ false)
  unfolding bad_kind
  parts =
      let out = not (may_follow seen.kind kind) in
      let c = is_line Chemical 0 kind && leb max_chemicals seen.chemicals in
      let a = neither (out || c) (is_line Receptor 0 kind && leb (max_receptors sort) seen.receptors) e in
      let b = neither out c a.0 in
      (not-false (may_follow seen.kind kind) b.0, b.1, a.1)

  pub may_follow_lem : may_follow seen.kind kind ≡ true
  may_follow_lem = parts.0

  pub few_chemicals : seen.chemicals ≤ max_chemicals → begun_with Chemical kind seen.chemicals ≤ max_chemicals
  unfolding begun_with
  few_chemicals h = few_with (is_line Chemical 0 kind) seen.chemicals max_chemicals h parts.1

  pub few_receptors : seen.receptors ≤ max_receptors sort → begun_with Receptor kind seen.receptors ≤ max_receptors sort
  unfolding begun_with
  few_receptors h = few_with (is_line Receptor 0 kind) seen.receptors (max_receptors sort) h parts.2

-- ---- what the code carries after n lines
pub record Scanned (sort : Sort) (deck : List ℕ) (n : ℕ) (seen : Seen) : Type 0 where
  pub bound : n ≤ length deck / deck_line_width
  pub reads : first (up_to (line_conditions sort deck) n) ≡ passed
  pub told : seen ≡ seen_in deck n
  pub few_c : seen.chemicals ≤ max_chemicals
  pub few_r : seen.receptors ≤ max_receptors sort

pub scanned_start : (sort : Sort) (deck : List ℕ) → Scanned sort deck 0 (record { kind = Start; id = None; chemicals = 0; receptors = 0 })
unfolding first chained seen_in
scanned_start sort deck = record { bound = omega arith; reads = refl; told = refl; few_c = omega arith; few_r = omega arith }

module _ (sort : Sort) (deck l : List ℕ) (n : ℕ) (seen : Seen) (s : Scanned sort deck n seen) (e : l ≡ line_of deck (n + 1)) (t : Status)
    (f : t ≡ first (line_conditions_after sort seen l (n + 1))) where
  pub here : t ≡ first (line_conditions sort deck (n + 1))
  unfolding line_conditions
  here = rw (add-sub_cancel n 1, ← s.told, ← e) f

  pub scan_out : n < length deck / deck_line_width → (stop : Stop) → t ≡ Err stop → (last : List Condition)
      → Err stop ≡ first (up_to (line_conditions sort deck) (lines_of deck) ++ last)
  unfolding lines_of or_else
  scan_out h stop q last =
      let r = stops (λ k. line_conditions sort deck (k + 1)) n s.reads t here (length deck / deck_line_width) h stop q in
      sym (first_append (up_to (line_conditions sort deck) (length deck / deck_line_width)) last ∙ ap (λ (u : Status). or_else u (first last)) (sym r ∙ q))

  pub scan_on : n < length deck / deck_line_width → t ≡ passed → (kind : Kind) (id : Option ℕ) (next : Seen) → kind ≡ kind_of l → id ≡ id_of l → next ≡ seen_with seen kind id
      → Scanned sort deck (n + 1) next
  unfolding seen_in seen_with
  scan_on h q kind id next k i w =
      let read = line_read sort seen (n + 1) l (sym f ∙ q) in
      let v : next ≡ seen_with seen (kind_of l) (id_of l) = w ∙ (λ j. seen_with seen (k j) (i j)) in
      let line : l ≡ line_of deck (suc n) = e ∙ ap (line_of deck) (add-one n) in
      record {
        bound = omega arith;
        reads = goes_on (λ k. line_conditions sort deck (k + 1)) n s.reads t here q;
        told = rw add-one (v ∙ (λ j. seen_with (s.told j) (kind_of (line j)) (id_of (line j))));
        few_c = subst (λ (x : Seen). x.chemicals ≤ max_chemicals) (sym v) (few_chemicals sort seen (kind_of l) read.kind s.few_c);
        few_r = subst (λ (x : Seen). x.receptors ≤ max_receptors sort) (sym v) (few_receptors sort seen (kind_of l) read.kind s.few_r);
      }

-- ---- the end
ending : (b : Bool) (s : Status) → cond b passed s ≡ cond (not b) s passed
ending true s = refl
ending false s = refl

-- the last line is EN, told by what was seen or by the line itself
pub end_seen : (deck : List ℕ) (n : ℕ) → is_end (seen_in deck n).kind ≡ is_end (kind_of (line_of deck n))
unfolding seen_in seen_with line_of within kind_of kind_in
end_seen deck zero = refl
end_seen deck (suc n) = refl

module _ (sort : Sort) (deck : List ℕ) (n : ℕ) (seen : Seen) (s : Scanned sort deck n seen) (h : length deck / deck_line_width ≤ n) where
  pub all : n ≡ lines_of deck
  unfolding lines_of
  all = le_antisymm s.bound h

  pub all_told : seen ≡ seen_in deck (lines_of deck)
  all_told = s.told ∙ ap (seen_in deck) all

  pub scan_end : (t : Status) → t ≡ cond (is_end seen.kind) passed (stopped 21 (length deck / deck_line_width + 1) 0)
      → t ≡ first (up_to (line_conditions sort deck) (lines_of deck) ++ (at 21 (lines_of deck + 1) 0 (no_end deck) ∷ []))
  unfolding lines_of first or_else no_end
  scan_end t e =
      let m = length deck / deck_line_width in
      e
      ∙ ap (λ (b : Bool). cond b passed (stopped 21 (m + 1) 0)) (ap (λ (x : Seen). is_end x.kind) all_told ∙ end_seen deck m)
      ∙ ending (is_end (kind_of (line_of deck m))) (stopped 21 (m + 1) 0)
      ∙ sym
      (first_append (up_to (line_conditions sort deck) m) (at 21 (m + 1) 0 (no_end deck) ∷ [])
      ∙ ap (λ (u : Status). or_else u (first (at 21 (m + 1) 0 (no_end deck) ∷ [])))
      (subst (λ (k : ℕ). first (up_to (line_conditions sort deck) k) ≡ passed) all s.reads))

  pub scan_counts : (c d : ℕ) → (c ≡ seen.chemicals) × (d ≡ seen.receptors)
      → (c ≡ (seen_in deck (lines_of deck)).chemicals) × (d ≡ (seen_in deck (lines_of deck)).receptors)
  scan_counts c d e = (e.0 ∙ ap (λ (x : Seen). x.chemicals) all_told, e.1 ∙ ap (λ (x : Seen). x.receptors) all_told)

-- ---- 11
pub length_none : (sort : Sort) (deck : List ℕ) → length deck ≡ 0 → true ≡ bad_length sort deck
unfolding bad_length
length_none sort deck h = simp (eq-eqb (length deck) 0 h)

module _ (sort : Sort) (deck : List ℕ) (h : length deck ≡ 0 → ⊥) (m : ℕ) (e : m ≡ max_length sort) where
  pub length_long : m < length deck → true ≡ bad_length sort deck
  unfolding bad_length
  length_long k = simp (ne_eqb (length deck) 0 h, ap (λ (x : ℕ). ltb x (length deck)) (sym e) ∙ lt-ltb m (length deck) k)

  pub length_rest : length deck ≤ m → not (eqb (length deck % deck_line_width) 0) ≡ bad_length sort deck
  unfolding bad_length
  length_rest k = simp (ne_eqb (length deck) 0 h, ap (λ (x : ℕ). ltb x (length deck)) (sym e) ∙ le-ltb m (length deck) k)

longest : (sort : Sort) → max_length sort ≤ max_length Composite
longest Ordinary = omega arith
longest Composite = omega arith

pub length_held : (sort : Sort) (deck : List ℕ) (b : Bool) → b ≡ bad_length sort deck → b ≡ false → length deck ≤ max_length Composite
unfolding bad_length
length_held sort deck b e h =
    let none = (neither (eqb (length deck) 0 || ltb (max_length sort) (length deck)) (not (eqb (length deck % deck_line_width) 0)) (sym e ∙ h)).0 in
    let long = ltb-false (max_length sort) (length deck) (neither (eqb (length deck) 0) (ltb (max_length sort) (length deck)) none).1 in
    omega (arith, longest sort)

-- a line that the deck has is whole
line_some : (deck : List ℕ) (n : ℕ) → n < length deck / deck_line_width → (l : List ℕ) → l ≡ line_of deck (n + 1) → length l ≡ 0 → ⊥
line_some deck n h l e z =
    let k : deck_line_width * (n + 1 - 1) + deck_line_width ≤ length deck = omega arith in
    let m : length (take deck_line_width (drop (deck_line_width * (n + 1 - 1)) deck)) ≡ deck_line_width =
    length-take deck_line_width (drop (deck_line_width * (n + 1 - 1)) deck) ∙ omega (arith, length-drop (deck_line_width * (n + 1 - 1)) deck) in
    let q : length l ≡ deck_line_width = ap length (e ∙ line_is deck (n + 1) (omega arith) (omega arith)) ∙ m in
    omega arith

pub line_whole : (deck : List ℕ) (n : ℕ) → n < length deck / deck_line_width → (l : List ℕ) → l ≡ line_of deck (n + 1) → length l ≡ deck_line_width
line_whole deck n h l e = line_full deck (n + 1) l e (line_some deck n h l e)

-- a deck in parts of one line's width
chunk_is : (k : ℕ) (s : List ℕ) (i : ℕ) (d : List ℕ) → i < k → get_or (first_chunks deck_line_width k s) i d ≡ take deck_line_width (drop (deck_line_width * i) s)
chunk_is zero s i d h = absurd (omega arith)
chunk_is (suc k) s zero d h = refl
chunk_is (suc k) s (suc i) d h =
    let past : deck_line_width + deck_line_width * i ≡ deck_line_width * suc i = omega arith in
    chunk_is k (drop deck_line_width s) i d (omega arith)
    ∙ ap (take deck_line_width) (drop-drop (deck_line_width * i) deck_line_width s ∙ ap (λ (m : ℕ). drop m s) past)

pub line_chunk : (deck : List ℕ) (n : ℕ) (parts : List (List ℕ)) (d : List ℕ) → parts ≡ first_chunks deck_line_width (length deck / deck_line_width) deck
    → n < length deck / deck_line_width → get_or parts n d ≡ line_of deck (n + 1)
line_chunk deck n parts d e h =
    let here : n ≡ n + 1 - 1 = omega arith in
    ap (λ (p : List (List ℕ)). get_or p n d) e
    ∙ chunk_is (length deck / deck_line_width) deck n d h
    ∙ ap (λ (m : ℕ). take deck_line_width (drop (deck_line_width * m) deck)) here
    ∙ sym (line_is deck (n + 1) (omega arith) (omega arith))
