-- A deck with its year blanked out (document 02, P6): its case is the deck's with slot 12 cleared, and where the year was blank or 2005 the
-- same condition stops it, or none does; and its guidance is that of 2005, as that of a deck of 2009 is that of 2009.
-- Assumes nothing.
use Prim.Native.Nat.{ℕ, zero, suc, ◌+◌, ◌*◌, ◌-◌, ◌/◌, ◌%◌, ◌^◌, ◌≤◌, ◌<◌}
use native.Mathlib.Nat.{one-le-pow, mul-le-mul_left, mul-le-mul_right, pow-le-pow_right, eq-or-lt_of_le, le_of_suc-le-suc}
use native.Mathlib.Numerals.{add-one}
use native.Mathlib.Omega.{arith}
use mathlib.Core.Path.{◌≡◌, refl, sym, ap, ◌∙◌, subst}
use mathlib.Core.Logic.{⊎_elim}
use mathlib.Core.Bool.{Bool, true, false, cond, not, ◌&&◌, ◌||◌, or-true, false≢true}
use mathlib.Core.List.{List, [], ◌∷◌, ◌++◌}
use borrow.Author.Tests.{ne_eqb, eqb-true, eqb-false, ltb-true, ltb-false, le-leb}
use lib.Dec.{leb, ltb, eqb, lit≤, lit<}
use lib.IntN.{ℤ}
use lib.ListN.{length, get_or, take, drop, set, replicate, length-append, length-drop, take-append-drop}
use lib.Seq.{length-take-le, take_at, drop_at, take-take, take-add, take-suc, drop-drop, get_or-take, get_or-drop, set_at, append_snoc}
use Rattle.std.specs.Prelude.{Ok, Err}
use Rattle.slots.specs.Slots.{unused, guidance_year, year_of, table, same, is_in, place_in, owner_of, place_of, rule_in, rule_at, line_rules}
use Rattle.slots.specs.declared.Guidance.{Guidance}
use Rattle.slots.specs.declared.Guidance.TheVariants.{Of2005, Of2009}
use Rattle.slots.specs.declared.Sort.{Sort}
use Rattle.sizes.specs.Sizes.{fields_per_line, site_lines, record_lines, slots_per_record, max_chemicals, most_stages}
use Rattle.std.specs.Option.{unwrap_or}
use Rattle.spelling.specs.Columns.{within, leading, field_width, id_width}
use Rattle.deck.specs.Parts.{kind_width, fields_start, columns, deck_line_width, lines_of, line_of, field_in, field_of, kind_of}
use Rattle.spelling.specs.Spelling.{digits_of, unspaced, sign_spelled, exponent_spelled, ended_of, pointed_of, spelled_of, lone_dash, word_of, id_in}
use Rattle.kinds.specs.Kinds.{kind_in, is_line, is_last, is_end, may_begin, may_follow, rules_of}
use Rattle.slots.specs.declared.Owner.TheVariants.{Site, Chemical, Receptor}
use Rattle.kinds.specs.declared.Kind.{Kind}
use Rattle.kinds.specs.declared.Kind.TheVariants.{Start, Line, End, Other}
use Rattle.deck.specs.declared.lines.Seen.{Seen}
use Rattle.powers.specs.Powers.{above, below}
use Rattle.cases.specs.Ranges.{value_at_most, value_at_least, within_bounds, is_year_of, is_year, in_range}
use Rattle.cases.specs.Conditions.{Status, passed, stopped, Condition, at, first, up_to}
use Rattle.deck.specs.DeckConditions.{misspelled, misplaced, out_of_range, field_conditions, field_at, bad_bytes, bad_kind, id_of, wrong_id, bad_id, line_conditions_after, seen_with, seen_in, line_conditions, max_length, bad_length, no_end, conditions}
use Rattle.lists.specs.Lists.{tabulate, chained}
use Rattle.deck.specs.DeckCase.{chemicals_start, value_of, slot_spelled, record_of, records_of, case_with, case_of}
use Rattle.cases.specs.Cases.{no_record, value_at, guidance_of, clear_year, case_without_year}
use Rattle.deck.specs.Guidance.{year_word, is2005, is2009, year_column, year_start, year_end, without_year}
use Rattle.spelling.specs.declared.Word.{Word}
use Rattle.spelling.specs.declared.Word.TheVariants.{Blank, Dash, Number, Other}
use Rattle.cases.specs.declared.Value.TheVariants.{Absent}
use Rattle.cases.specs.declared.Record.{Record}
use Rattle.spelling.proofs.Leading.{within_yes}
use Rattle.lists.proofs.Booleans.{both}
use Rattle.spelling.proofs.DigitLaws.{within_bounds_lem, digit_first, leading_le, leading_take}
use Rattle.spelling.proofs.WordLaws.{exponent_four}
use Rattle.deck.proofs.PartLaws.{line_is}
use Rattle.lists.proofs.Tabulated.{length_tabulate, filled_at, tabulate_same}
use Rattle.deck.proofs.SpelledWords.{choose}
use Rattle.cases.proofs.FirstMet.{or_else, first_append, chained_each}
use Rattle.cases.proofs.GuidanceLaws.{named}
use Rattle.deck.proofs.Scan.{line_read, may_follow_lem}
use Rattle.kinds.proofs.KindLaws.{is_line_lem}
use Rattle.lists.proofs.ListLaws.{drop_take}

-- the year's line is the site's last, and its slot the last of those
abbrev year_line : Kind
year_line = Line Site (site_lines - 1)

abbrev site_slots : ℕ
site_slots = site_lines * fields_per_line

abbrev year_slot : ℕ
year_slot = site_slots - 1

module _ (n : ℕ) (s t : List ℕ) (e : take n s ≡ take n t) where
  same_front : (m : ℕ) → m ≤ n → take m s ≡ take m t
  same_front m h = sym (take-take m n s h) ∙ ap (take m) e ∙ take-take m n t h

  same_part : (k m : ℕ) → k + m ≤ n → take m (drop k s) ≡ take m (drop k t)
  same_part k m h = sym (drop_take k m s) ∙ ap (drop k) (same_front (k + m) h) ∙ drop_take k m t

  same_byte : (i : ℕ) → i < n → get_or s i 0 ≡ get_or t i 0
  same_byte i h = sym (get_or-take n s i 0 h) ∙ ap (λ (l : List ℕ). get_or l i 0) e ∙ get_or-take n t i 0 h

-- ---- bytes that all count
leads_append : (lo hi : ℕ) (xs ys : List ℕ) → leading lo hi xs ≡ length xs → leading lo hi (xs ++ ys) ≡ length xs + leading lo hi ys
unfolding leading
leads_append lo hi [] ys h = omega arith
leads_append lo hi (x ∷ xs) ys h =
    let f = digit_first (within lo hi x) (leading lo hi xs) (length xs) h in
    simp f.0 (omega (arith, leads_append lo hi xs ys f.1))

leads_same : (lo hi : ℕ) (xs ys zs : List ℕ) → leading lo hi ys ≡ leading lo hi zs → leading lo hi (xs ++ ys) ≡ leading lo hi (xs ++ zs)
unfolding leading
leads_same lo hi [] ys zs h = h
leads_same lo hi (x ∷ xs) ys zs h = ap (λ (n : ℕ). cond (within lo hi x) (suc n) 0) (leads_same lo hi xs ys zs h)

-- every byte from 32 to 126
abbrev Plain : List ℕ → Type 0
Plain s = leading 32 126 s ≡ length s

plain_append : (xs ys : List ℕ) → Plain xs → Plain ys → Plain (xs ++ ys)
plain_append xs ys p q = omega (arith, leads_append 32 126 xs ys p, length-append xs ys)

plain_split : (n : ℕ) (s : List ℕ) → Plain (take n s) → Plain (drop n s) → Plain s
plain_split n s p q = subst (λ (l : List ℕ). Plain l) (take-append-drop n s) (plain_append (take n s) (drop n s) p q)

plain_one : (b : ℕ) → 32 ≤ b → b ≤ 126 → Plain (b ∷ [])
unfolding leading
plain_one b p q = simp (within_yes 32 126 b p q)

plain_range : (lo hi : ℕ) → 32 ≤ lo → hi ≤ 126 → (s : List ℕ) → leading lo hi s ≡ length s → Plain s
unfolding leading
plain_range lo hi p q [] h = refl
plain_range lo hi p q (x ∷ xs) h =
    let f = digit_first (within lo hi x) (leading lo hi xs) (length xs) h in
    let b = within_bounds_lem lo hi x f.0 in
    plain_append (x ∷ []) xs (plain_one x (omega arith) (omega arith)) (plain_range lo hi p q xs f.1)

plain_digits : (s : List ℕ) → Plain (take (digits_of s) s)
plain_digits s = plain_range 48 57 (lit≤ tt) (lit≤ tt) (take (digits_of s) s) (leading_take 48 57 s)

-- ---- the bytes of a number
plain_sign : (b : ℕ) (t u : Bool) → eqb b 43 ≡ t → eqb b 45 ≡ u → (t || u) ≡ true → Plain (b ∷ [])
plain_sign b true u e f h = plain_one b (omega (arith, eqb-true b 43 e)) (omega (arith, eqb-true b 43 e))
plain_sign b false true e f h = plain_one b (omega (arith, eqb-true b 45 f)) (omega (arith, eqb-true b 45 f))
plain_sign b false false e f h = absurd (false≢true h)

plain_exponent : (tail : List ℕ) → exponent_spelled tail ≡ true → Plain tail
unfolding leading exponent_spelled sign_spelled
plain_exponent [] s = refl
plain_exponent (a ∷ b ∷ x ∷ y ∷ []) s =
    let p = both (eqb a 69 && (eqb b 43 || eqb b 45)) (eqb (leading 48 57 (x ∷ y ∷ [])) 2) s in
    let q = both (eqb a 69) (eqb b 43 || eqb b 45) p.0 in
    let e = eqb-true a 69 q.0 in
    plain_append (a ∷ []) (b ∷ x ∷ y ∷ []) (plain_one a (omega arith) (omega arith))
    (plain_append (b ∷ []) (x ∷ y ∷ []) (plain_sign b (eqb b 43) (eqb b 45) refl refl q.1)
    (plain_range 48 57 (lit≤ tt) (lit≤ tt) (x ∷ y ∷ []) (eqb-true (leading 48 57 (x ∷ y ∷ [])) 2 p.1)))
plain_exponent (a ∷ []) s = absurd (omega (arith, exponent_four (a ∷ []) s (λ z. omega arith)))
plain_exponent (a ∷ b ∷ []) s = absurd (omega (arith, exponent_four (a ∷ b ∷ []) s (λ z. omega arith)))
plain_exponent (a ∷ b ∷ x ∷ []) s = absurd (omega (arith, exponent_four (a ∷ b ∷ x ∷ []) s (λ z. omega arith)))
plain_exponent (a ∷ b ∷ x ∷ y ∷ z ∷ zs) s = absurd (omega (arith, exponent_four (a ∷ b ∷ x ∷ y ∷ z ∷ zs) s (λ z. omega arith)))

-- a part that holds this word, if it is blank or 2005, has such bytes alone
abbrev Named : List ℕ → Word → Type 0
Named s w = is2005 w ≡ true → Plain s

module _ (text : List ℕ) where
  other_named : Named text Other
  unfolding is2005
  other_named h = absurd (false≢true h)

  ended_named : (whole places end : ℕ) → Plain (take end text) → Named text (ended_of text whole places end)
  unfolding ended_of
  ended_named whole places end p =
      choose (Named text) (leb (whole + places) 12 && exponent_spelled (drop end text)) _ Other
      (λ t h. plain_split end text p (plain_exponent (drop end text) (both (leb (whole + places) 12) (exponent_spelled (drop end text)) t).1))
      (λ t. other_named)

  pointed_named : (whole : ℕ) → Plain (take whole text) → get_or text whole 0 ≡ 46 → Named text (pointed_of text whole)
  unfolding pointed_of
  pointed_named whole p e =
      let rest = drop (whole + 1) text in
      choose (Named text) (eqb (digits_of rest) 0) Other _ (λ t. other_named)
      (λ t.
      ended_named whole (digits_of rest) (whole + 1 + digits_of rest)
      (let some = eqb-false (digits_of rest) 0 t in
      let h : whole < length text = omega (arith, leading_le 48 57 rest, length-drop (whole + 1) text) in
      let b : Plain (get_or text whole 0 ∷ []) = plain_one (get_or text whole 0) (omega arith) (omega arith) in
      let f : Plain (take (whole + 1) text) = rw (add-one, take-suc text whole 0 h) (plain_append (take whole text) (get_or text whole 0 ∷ []) p b) in
      subst (λ (l : List ℕ). Plain l) (sym (take-add (whole + 1) (digits_of rest) text)) (plain_append (take (whole + 1) text) (take (digits_of rest) rest) f (plain_digits rest))))

  spelled_named : Named text (spelled_of text)
  unfolding spelled_of
  spelled_named =
      let whole = digits_of text in
      choose (Named text) (eqb whole 0) Other _ (λ t. other_named)
      (λ t.
      choose (Named text) (eqb (get_or text whole 0) 46) _ _
      (λ u. pointed_named whole (plain_digits text) (eqb-true (get_or text whole 0) 46 u))
      (λ u. ended_named whole 0 whole (plain_digits text)))

-- the bytes of a part that is blank or 2005 can all stand in a deck
plain_2005 : (part : List ℕ) → is2005 (word_of part) ≡ true → Plain part
unfolding word_of is2005
plain_2005 part h =
    let text = unspaced part in
    plain_split (leading 32 32 part) part (plain_range 32 32 (lit≤ tt) (lit≤ tt) (take (leading 32 32 part) part) (leading_take 32 32 part))
    (choose (Named text) (eqb (length text) 0) Blank _
    (λ t k. omega (arith, eqb-true (length text) 0 t, leading_le 32 126 text))
    (λ t. choose (Named text) (lone_dash text) Dash _ (λ u k. absurd (false≢true k)) (λ u. spelled_named text))
    h)

-- ---- a line, and the same with its sixth field blanked out
-- year_column columns, the twelve of the field, and the line feed
record Blanked (l m : List ℕ) : Type 0 where
  front : take year_column m ≡ take year_column l
  field : take field_width (drop year_column m) ≡ replicate field_width 32
  end : drop columns m ≡ drop columns l

in_three : (l : List ℕ) → take year_column l ++ (take field_width (drop year_column l) ++ drop columns l) ≡ l
in_three l =
    ap (λ (r : List ℕ). take year_column l ++ (take field_width (drop year_column l) ++ r)) (sym (drop-drop field_width year_column l))
    ∙ ap (λ (r : List ℕ). take year_column l ++ r) (take-append-drop field_width (drop year_column l))
    ∙ take-append-drop year_column l

module _ (l m : List ℕ) (b : Blanked l m) where
  kind_same : kind_of m ≡ kind_of l
  unfolding kind_of
  kind_same =
      let p = same_byte year_column m l b.front 0 (lit≤ tt) in
      let q = same_byte year_column m l b.front 1 (lit≤ tt) in
      λ i. kind_in (p i) (q i)

  id_same : id_of m ≡ id_of l
  unfolding id_of
  id_same = ap id_in (same_part year_column m l b.front kind_width id_width (lit≤ tt))

  field_same : (f : ℕ) → f < fields_per_line → field_in m f ≡ field_in l f
  unfolding field_in
  field_same f h = ap (λ (r : List ℕ). cond (within 1 fields_per_line f) r []) (same_part year_column m l b.front (fields_start + field_width * (f - 1)) field_width (omega arith))

  sixth_blank : word_of (field_in m fields_per_line) ≡ Blank
  unfolding field_in within word_of leading
  sixth_blank = ap word_of b.field

  -- where the field's bytes were right, the line's are as right as before
  bytes_same : length l ≡ deck_line_width → Plain (field_in l fields_per_line) → bad_bytes m ≡ bad_bytes l
  unfolding bad_bytes field_in within leading
  bytes_same long p =
      let r = drop columns l in
      let w : length (take field_width (drop year_column l)) ≡ field_width = length-take-le field_width (drop year_column l) (omega (arith, length-drop year_column l)) in
      let u : leading 32 126 (replicate field_width 32 ++ r) ≡ leading 32 126 (take field_width (drop year_column l) ++ r) =
      leads_append 32 126 (replicate field_width 32) r refl ∙ omega (arith, leads_append 32 126 (take field_width (drop year_column l)) r p) in
      let v : m ≡ take year_column l ++ (replicate field_width 32 ++ r) = sym (in_three m) ∙ (λ i. b.front i ++ (b.field i ++ b.end i)) in
      let c : leading 32 126 m ≡ leading 32 126 l =
      ap (leading 32 126) v ∙ leads_same 32 126 (take year_column l) (replicate field_width 32 ++ r) (take field_width (drop year_column l) ++ r) u ∙ ap (leading 32 126) (in_three l) in
      let d : get_or m columns 0 ≡ get_or l columns 0 = sym (get_or-drop columns m 0 0) ∙ ap (λ (s : List ℕ). get_or s 0 0) b.end ∙ get_or-drop columns l 0 0 in
      λ i. not (eqb (c i) columns && eqb (d i) 10)

-- ---- a fact of each line, shown for the year's apart
by_line : (P : ℕ → Type 0) → P site_lines → ((n : ℕ) → (n ≡ site_lines → ⊥) → P n) → (n : ℕ) → P n
by_line P p q n = go (eqb n site_lines) refl
  where
    go : (t : Bool) → eqb n site_lines ≡ t → P n
    go true e = subst P (sym (eqb-true n site_lines e)) p
    go false e = q n (eqb-false n site_lines e)

-- ---- the deck without its year
-- a part of the second line
part_of : (s : List ℕ) (k m : ℕ) → k + m ≤ deck_line_width → take m (drop k (take deck_line_width (drop deck_line_width s))) ≡ take m (drop (deck_line_width + k) s)
part_of s k m h =
    sym (drop_take k m (take deck_line_width (drop deck_line_width s))) ∙ ap (drop k) (take-take (k + m) deck_line_width (drop deck_line_width s) h) ∙ drop_take k m (drop deck_line_width s) ∙ ap (take m) (drop-drop k deck_line_width s)

module _ (deck : List ℕ) (long : deck_line_width * site_lines ≤ length deck) where
  taken : length (take year_start deck) ≡ year_start
  taken = length-take-le year_start deck (omega arith)

  before_same : take year_start (without_year deck) ≡ take year_start deck
  unfolding without_year
  before_same = take_at (take year_start deck) (replicate field_width 32 ++ drop year_end deck) year_start taken

  from_year : drop year_start (without_year deck) ≡ replicate field_width 32 ++ drop year_end deck
  unfolding without_year
  from_year = drop_at (take year_start deck) (replicate field_width 32 ++ drop year_end deck) year_start taken

  after_same : drop year_end (without_year deck) ≡ drop year_end deck
  after_same = sym (drop-drop field_width year_start (without_year deck)) ∙ ap (drop field_width) from_year

  length_same : length (without_year deck) ≡ length deck
  unfolding without_year
  length_same = length-append (take year_start deck) (replicate field_width 32 ++ drop year_end deck) ∙ omega (arith, taken, length-drop year_end deck)

  lines_same : lines_of (without_year deck) ≡ lines_of deck
  unfolding lines_of
  lines_same = ap (λ (n : ℕ). n / deck_line_width) length_same

  later_same : (k : ℕ) → year_end ≤ k → drop k (without_year deck) ≡ drop k deck
  later_same k h =
      let e : year_end + (k - year_end) ≡ k = omega arith in
      subst (λ (n : ℕ). drop n (without_year deck) ≡ drop n deck) e
      (sym (drop-drop (k - year_end) year_end (without_year deck)) ∙ ap (drop (k - year_end)) after_same ∙ drop-drop (k - year_end) year_end deck)

  columns_same : (n : ℕ) → (n ≡ site_lines → ⊥)
      → take deck_line_width (drop (deck_line_width * (n - 1)) (without_year deck)) ≡ take deck_line_width (drop (deck_line_width * (n - 1)) deck)
  columns_same n h = go (ltb n site_lines) refl
    where
      go : (t : Bool) → ltb n site_lines ≡ t
          → take deck_line_width (drop (deck_line_width * (n - 1)) (without_year deck)) ≡ take deck_line_width (drop (deck_line_width * (n - 1)) deck)
      go true e = same_part year_start (without_year deck) deck before_same (deck_line_width * (n - 1)) deck_line_width (omega (arith, ltb-true n site_lines e))
      go false e = ap (take deck_line_width) (later_same (deck_line_width * (n - 1)) (omega (arith, ltb-false n site_lines e)))

  -- every line but the second
  line_same : (n : ℕ) → (n ≡ site_lines → ⊥) → line_of (without_year deck) n ≡ line_of deck n
  unfolding line_of
  line_same n h = let c = columns_same n h in λ i. cond (within 1 (lines_same i) n) (c i) []

  second_is : line_of deck site_lines ≡ take deck_line_width (drop deck_line_width deck)
  second_is = line_is deck site_lines (lit≤ tt) (omega arith)

  second_without : line_of (without_year deck) site_lines ≡ take deck_line_width (drop deck_line_width (without_year deck))
  second_without = line_is (without_year deck) site_lines (lit≤ tt) (omega (arith, length_same))

  second_length : length (line_of deck site_lines) ≡ deck_line_width
  second_length = ap length second_is ∙ length-take-le deck_line_width (drop deck_line_width deck) (omega (arith, length-drop deck_line_width deck))

  second_blanked : Blanked (line_of deck site_lines) (line_of (without_year deck) site_lines)
  second_blanked = record {
    front = rw (second_is, second_without)
        (part_of (without_year deck) 0 year_column (lit≤ tt)
        ∙ same_part year_start (without_year deck) deck before_same deck_line_width year_column (lit≤ tt)
        ∙ sym (part_of deck 0 year_column (lit≤ tt)));
    field = rw second_without (part_of (without_year deck) year_column field_width (lit≤ tt) ∙ ap (take field_width) from_year);
    end = rw (second_is, second_without)
        (drop_take columns 1 (drop deck_line_width (without_year deck))
        ∙ ap (take 1) (drop-drop columns deck_line_width (without_year deck) ∙ after_same ∙ sym (drop-drop columns deck_line_width deck))
        ∙ sym (drop_take columns 1 (drop deck_line_width deck)));
  }

  -- each line's kind and id, and so what is seen
  kinds_same : (n : ℕ) → kind_of (line_of (without_year deck) n) ≡ kind_of (line_of deck n)
  kinds_same =
      by_line (λ n. kind_of (line_of (without_year deck) n) ≡ kind_of (line_of deck n))
      (kind_same (line_of deck site_lines) (line_of (without_year deck) site_lines) second_blanked) (λ n h. ap kind_of (line_same n h))

  ids_same : (n : ℕ) → id_of (line_of (without_year deck) n) ≡ id_of (line_of deck n)
  ids_same =
      by_line (λ n. id_of (line_of (without_year deck) n) ≡ id_of (line_of deck n))
      (id_same (line_of deck site_lines) (line_of (without_year deck) site_lines) second_blanked) (λ n h. ap id_of (line_same n h))

  seen_same : (n : ℕ) → seen_in (without_year deck) n ≡ seen_in deck n
  unfolding seen_in
  seen_same zero = refl
  seen_same (suc n) =
      let s = seen_same n in
      let k = kinds_same (suc n) in
      let d = ids_same (suc n) in
      λ i. seen_with (s i) (k i) (d i)

module _ {A : Type 0} (f : ℕ → A) (n : ℕ) (rest : List A) where
  tabulate_last : tabulate (suc n) f ++ rest ≡ tabulate n f ++ (f n ∷ rest)
  unfolding tabulate
  tabulate_last = append_snoc (tabulate n f) (f n) rest

  tabulate_set : (a : A) → set (tabulate (suc n) f ++ rest) n a ≡ tabulate n f ++ (a ∷ rest)
  tabulate_set a = ap (λ (l : List A). set l n a) tabulate_last ∙ set_at (tabulate n f) (f n) rest a n (length_tabulate f a 0 n)

module _ (deck : List ℕ) (long : deck_line_width * site_lines ≤ length deck) where
  slot_same : (n k : ℕ) → (n + k / fields_per_line ≡ site_lines → k % fields_per_line + 1 < fields_per_line) → slot_spelled (without_year deck) n k ≡ slot_spelled deck n k
  unfolding slot_spelled field_of
  slot_same n k =
      let f = k % fields_per_line + 1 in
      by_line
      (λ m. (m ≡ site_lines → f < fields_per_line) → value_of (word_of (field_in (line_of (without_year deck) m) f)) ≡ value_of (word_of (field_in (line_of deck m) f)))
      (λ h i. value_of (word_of (field_same (line_of deck site_lines) (line_of (without_year deck) site_lines) (second_blanked deck long) f (h refl) i)))
      (λ m q h i. value_of (word_of (field_in (line_same deck long m q i) f)))
      (n + k / fields_per_line)

  year_cleared : slot_spelled (without_year deck) 1 year_slot ≡ Absent
  unfolding slot_spelled field_of value_of
  year_cleared = λ i. value_of (sixth_blank (line_of deck site_lines) (line_of (without_year deck) site_lines) (second_blanked deck long) i)

  site_cleared : record_of (without_year deck) 1 site_lines ≡ clear_year (record_of deck 1 site_lines)
  unfolding record_of clear_year place_of owner_of is_in place_in same table
  site_cleared =
      let none = replicate (slots_per_record - site_slots) Absent in
      let e = ids_same deck long 1 in
      let t = tabulate_same (slot_spelled (without_year deck) 1) (slot_spelled deck 1) year_slot (λ k h. slot_same 1 k (λ q. omega arith)) in
      let s : tabulate site_slots (slot_spelled (without_year deck) 1) ++ none ≡ set (tabulate site_slots (slot_spelled deck 1) ++ none) year_slot Absent =
      tabulate_last (slot_spelled (without_year deck) 1) year_slot none ∙ (λ i. t i ++ (year_cleared i ∷ none)) ∙ sym (tabulate_set (slot_spelled deck 1) year_slot none Absent) in
      λ i. record { id = unwrap_or (e i) 0; slots = s i }

  record_same : (n : ℕ) → chemicals_start ≤ n → record_of (without_year deck) n record_lines ≡ record_of deck n record_lines
  unfolding record_of
  record_same n h =
      let e = ids_same deck long n in
      let s = tabulate_same (slot_spelled (without_year deck) n) (slot_spelled deck n) (record_lines * fields_per_line) (λ k l. slot_same n k (λ q. absurd (omega arith))) in
      λ i. record { id = unwrap_or (e i) 0; slots = s i ++ replicate (slots_per_record - record_lines * fields_per_line) Absent }

  records_same : (n count room : ℕ) → chemicals_start ≤ n → records_of (without_year deck) n count room ≡ records_of deck n count room
  unfolding records_of
  records_same n count room h =
      let s = tabulate_same (λ j. record_of (without_year deck) (n + record_lines * j) record_lines) (λ j. record_of deck (n + record_lines * j) record_lines) count (λ j l. record_same (n + record_lines * j) (omega arith)) in
      ap (λ (l : List Record). l ++ replicate (room - count) no_record) s

  case_with_lem : (c r : ℕ) → case_with (without_year deck) c r ≡ case_without_year (case_with deck c r)
  unfolding case_with case_without_year
  case_with_lem c r =
      let cs = records_same chemicals_start c max_chemicals (lit≤ tt) in
      let rs = records_same (chemicals_start + record_lines * c) r most_stages (omega arith) in
      λ i. record { site = site_cleared i; chemicals = record { count = c; records = cs i }; receptors = record { count = r; records = rs i } }

-- the case of a deck without its year is the deck's case without its year
pub case_without : (deck : List ℕ) → deck_line_width * site_lines ≤ length deck → case_of (without_year deck) ≡ case_without_year (case_of deck)
unfolding case_of
case_without deck long =
    let s = ap (seen_in (without_year deck)) (lines_same deck long) ∙ seen_same deck long (lines_of deck) in
    (λ i. case_with (without_year deck) (s i).chemicals (s i).receptors) ∙ case_with_lem deck long (seen_in deck (lines_of deck)).chemicals (seen_in deck (lines_of deck)).receptors

-- ---- the first condition of two lists, where those before it agree
same_next : (s t u : Status) → (s ≡ passed → t ≡ u) → or_else s t ≡ or_else s u
unfolding or_else
same_next (Ok done) t u h = h refl
same_next (Err stop) t u h = refl

same_chained : (f g : ℕ → List Condition) (m : ℕ) → ((k : ℕ) → k < m → first (chained g k) ≡ passed → first (f k) ≡ first (g k))
    → first (chained f m) ≡ first (chained g m)
unfolding chained
same_chained f g zero h = refl
same_chained f g (suc m) h =
    first_append (chained f m) (f m)
    ∙ ap (λ (s : Status). or_else s (first (f m))) (same_chained f g m (λ k l. h k (omega arith)))
    ∙ same_next (first (chained g m)) (first (f m)) (first (g m)) (h m (omega arith))
    ∙ sym (first_append (chained g m) (g m))

same_else : (b : Bool) (s t u : Status) → (b ≡ false → t ≡ u) → cond b s t ≡ cond b s u
same_else true s t u h = refl
same_else false s t u h = h refl

-- ---- the one kind that may follow the start, and the site's first line
after_start : (k : Kind) → may_follow Start k ≡ true → k ≡ Line Site 0
unfolding may_follow may_begin is_last is_line
after_start (Line Site zero) h = refl
after_start (Line Chemical zero) h = absurd (false≢true h)
after_start (Line Receptor zero) h = absurd (false≢true h)
after_start (Line o (suc n)) h = absurd (false≢true h)
after_start Start h = absurd (false≢true h)
after_start End h = absurd (false≢true h)
after_start Other h = absurd (false≢true h)

after_first : (k : Kind) → may_follow (Line Site 0) k ≡ true → k ≡ year_line
unfolding may_follow may_begin is_last is_line
after_first (Line Site zero) h = absurd (false≢true h)
after_first (Line Chemical zero) h = absurd (false≢true h)
after_first (Line Receptor zero) h = absurd (false≢true h)
after_first (Line o (suc n)) h = let e = is_line_lem o n (Line Site 0) h in cc
after_first Start h = absurd (false≢true h)
after_first End h = absurd (false≢true h)
after_first Other h = absurd (false≢true h)

-- ---- no condition of the year's field holds
year_rule : (sort : Sort) → get_or (rules_of sort year_line) (fields_per_line - 1) unused ≡ guidance_year
unfolding line_rules rule_at rule_in table
year_rule sort = refl

module _ (year : ℕ) (least : 1 ≤ year) (most : year ≤ 1000000000) (digits : ℕ) (z : ℤ) (e : digits * 10 ^ above z ≡ year * 10 ^ below z) where
  some_below : 1 ≤ 10 ^ below z
  some_below = one-le-pow (below z) 10 (lit≤ tt)

  year_some : digits ≡ 0 → ⊥
  year_some q = let w : digits * 10 ^ above z ≡ 0 = rw q (omega arith) in omega (arith, some_below, mul-le-mul_right (10 ^ below z) least)

  year_least : value_at_least digits z ≡ true
  unfolding value_at_least
  year_least =
      let m : digits * 10 ^ above z ≤ digits * 10 ^ (above z + 20) = mul-le-mul_left digits (pow-le-pow_right (lit≤ tt) (omega arith)) in
      le-leb (10 ^ below z) (digits * 10 ^ (above z + 20)) (omega (arith, mul-le-mul_right (10 ^ below z) least))

  year_most : value_at_most 1000000000 digits z ≡ true
  unfolding value_at_most
  year_most = le-leb (digits * 10 ^ above z) (1000000000 * 10 ^ below z) (omega (arith, mul-le-mul_right (10 ^ below z) most))

  year_bounds : within_bounds guidance_year digits z ≡ true
  unfolding within_bounds
  year_bounds = simp (ne_eqb digits 0 year_some, year_least, year_most)

either_year : (y : Guidance) (digits : ℕ) (z : ℤ) → is_year_of y digits z ≡ true → is_year digits z ≡ true
unfolding is_year
either_year Of2005 digits z h = rw h refl
either_year Of2009 digits z h = rw h (or-true (is_year_of Of2005 digits z))

year_in : (y : Guidance) (digits : ℕ) (z : ℤ) → is_year_of y digits z ≡ true → in_range guidance_year digits z ≡ true
unfolding in_range is_year_of year_of
year_in Of2005 digits z h = simp (year_bounds 2005 (lit≤ tt) (lit≤ tt) digits z (eqb-true (digits * 10 ^ above z) (2005 * 10 ^ below z) h), either_year Of2005 digits z h)
year_in Of2009 digits z h = simp (year_bounds 2009 (lit≤ tt) (lit≤ tt) digits z (eqb-true (digits * 10 ^ above z) (2009 * 10 ^ below z) h), either_year Of2009 digits z h)

year_read : (w : Word) (n f : ℕ) → is2005 w ≡ true → first (field_conditions guidance_year w n f) ≡ passed
unfolding is2005 first field_conditions misspelled misplaced out_of_range
year_read Blank n f h = refl
year_read Dash n f h = absurd (false≢true h)
year_read (Number digits power) n f h = simp (year_in Of2005 digits power h)
year_read Other n f h = absurd (false≢true h)

pub read_2009 : (w : Word) (n f : ℕ) → is2009 w ≡ true → first (field_conditions guidance_year w n f) ≡ passed
unfolding is2009 first field_conditions misspelled misplaced out_of_range
read_2009 Blank n f h = absurd (false≢true h)
read_2009 Dash n f h = absurd (false≢true h)
read_2009 (Number digits power) n f h = simp (year_in Of2009 digits power h)
read_2009 Other n f h = absurd (false≢true h)

-- ---- the second line, after the site's first: past 21 it is the site's second, so it is no EN and its sixth field is the year's
module _ (sort : Sort) (seen : Seen) (l m : List ℕ) (b : Blanked l m) (y : is2005 (word_of (field_in l fields_per_line)) ≡ true) where
  sixth_read : (s : List ℕ) → is2005 (word_of (field_in s fields_per_line)) ≡ true → first (field_at sort year_line s site_lines fields_per_line) ≡ passed
  unfolding field_at
  sixth_read s h = rw (year_rule sort) (year_read (word_of (field_in s fields_per_line)) site_lines fields_per_line h)

  field_agrees : (k : ℕ) → k < fields_per_line → first (field_at sort year_line m site_lines (k + 1)) ≡ first (field_at sort year_line l site_lines (k + 1))
  unfolding field_at is2005
  field_agrees k h =
      ⊎_elim
      (λ q.
      subst (λ (n : ℕ). first (field_at sort year_line m site_lines (n + 1)) ≡ first (field_at sort year_line l site_lines (n + 1))) (sym q)
      (sixth_read m (ap is2005 (sixth_blank l m b)) ∙ sym (sixth_read l y)))
      (λ (g : k < fields_per_line - 1). ap (λ (s : List ℕ). first (field_conditions (get_or (rules_of sort year_line) (k + 1 - 1) unused) (word_of s) site_lines (k + 1))) (field_same l m b (k + 1) (omega arith)))
      (eq-or-lt_of_le (le_of_suc-le-suc h))

  id_agrees : bad_id seen year_line m ≡ bad_id seen year_line l
  unfolding bad_id
  id_agrees = ap (wrong_id seen year_line) (id_same l m b)

  kind_agrees : (k : Kind) → k ≡ year_line
      → cond (bad_id seen k m) (stopped 22 site_lines 0) (first (up_to (field_at sort k m site_lines) fields_per_line))
      ≡ cond (bad_id seen k l) (stopped 22 site_lines 0) (first (up_to (field_at sort k l site_lines) fields_per_line))
  kind_agrees k e =
      let f = same_chained (λ k. field_at sort year_line m site_lines (k + 1)) (λ k. field_at sort year_line l site_lines (k + 1)) fields_per_line (λ j h r. field_agrees j h) in
      subst
      (λ (n : Kind).
      cond (bad_id seen n m) (stopped 22 site_lines 0) (first (up_to (field_at sort n m site_lines) fields_per_line))
      ≡ cond (bad_id seen n l) (stopped 22 site_lines 0) (first (up_to (field_at sort n l site_lines) fields_per_line)))
      (sym e) (λ i. cond (id_agrees i) (stopped 22 site_lines 0) (f i))

  second_agrees : length l ≡ deck_line_width → seen.kind ≡ Line Site 0
      → first (line_conditions_after sort seen m site_lines) ≡ first (line_conditions_after sort seen l site_lines)
  unfolding first line_conditions_after
  second_agrees long before =
      let p = bytes_same l m b long (plain_2005 (field_in l fields_per_line) y) in
      let k = kind_same l m b in
      (λ i.
      cond (p i) (stopped 12 site_lines 0)
      (cond (bad_kind sort seen (k i)) (stopped 21 site_lines 0)
      (cond (bad_id seen (k i) m) (stopped 22 site_lines 0) (first (up_to (field_at sort (k i) m site_lines) fields_per_line)))))
      ∙ same_else (bad_bytes l) (stopped 12 site_lines 0) _ _
      (λ u.
      same_else (bad_kind sort seen (kind_of l)) (stopped 21 site_lines 0) _ _
      (λ v. kind_agrees (kind_of l) (after_first (kind_of l) (subst (λ (x : Kind). may_follow x (kind_of l) ≡ true) before (may_follow_lem sort seen (kind_of l) v)))))

-- ---- the deck's conditions
in_order : (sort : Sort) (s : List ℕ) → first (conditions sort s)
    ≡ cond (bad_length sort s) (stopped 11 0 0) (or_else (first (up_to (line_conditions sort s) (lines_of s))) (cond (no_end s) (stopped 21 (lines_of s + 1) 0) passed))
unfolding first conditions
in_order sort s = ap (λ (t : Status). cond (bad_length sort s) (stopped 11 0 0) t) (first_append (up_to (line_conditions sort s) (lines_of s)) (at 21 (lines_of s + 1) 0 (no_end s) ∷ []))

module _ (sort : Sort) (deck : List ℕ) (long : deck_line_width * site_lines ≤ length deck) (y : is2005 (year_word deck) ≡ true) where
  first_kind : first (up_to (line_conditions sort deck) 1) ≡ passed → (seen_in deck 1).kind ≡ Line Site 0
  unfolding line_conditions seen_in seen_with
  first_kind e =
      let r = line_read sort (seen_in deck 0) 1 (line_of deck 1) (chained_each (λ k. line_conditions sort deck (k + 1)) 1 e 0 (lit≤ tt)) in
      after_start (kind_of (line_of deck 1)) (may_follow_lem sort (seen_in deck 0) (kind_of (line_of deck 1)) r.kind)

  sixth_2005 : is2005 (word_of (field_in (line_of deck site_lines) fields_per_line)) ≡ true
  unfolding year_word field_of
  sixth_2005 = y

  -- line n as it stands in the deck without its year, after the lines of the deck
  carried : (n : ℕ) → line_conditions sort (without_year deck) n ≡ line_conditions_after sort (seen_in deck (n - 1)) (line_of (without_year deck) n) n
  unfolding line_conditions
  carried n = ap (λ (s : Seen). line_conditions_after sort s (line_of (without_year deck) n) n) (seen_same deck long (n - 1))

  line_agrees : (n : ℕ) → first (up_to (line_conditions sort deck) (n - 1)) ≡ passed → first (line_conditions sort (without_year deck) n) ≡ first (line_conditions sort deck n)
  unfolding line_conditions
  line_agrees =
      by_line (λ n. first (up_to (line_conditions sort deck) (n - 1)) ≡ passed → first (line_conditions sort (without_year deck) n) ≡ first (line_conditions sort deck n))
      (λ e.
      ap first (carried site_lines)
      ∙ second_agrees sort (seen_in deck 1) (line_of deck site_lines) (line_of (without_year deck) site_lines) (second_blanked deck long) sixth_2005 (second_length deck long) (first_kind e))
      (λ n h e. ap first (carried n) ∙ ap (λ (l : List ℕ). first (line_conditions_after sort (seen_in deck (n - 1)) l n)) (line_same deck long n h))

  lines_agree : (m : ℕ) → first (up_to (line_conditions sort (without_year deck)) m) ≡ first (up_to (line_conditions sort deck) m)
  lines_agree m =
      same_chained (λ k. line_conditions sort (without_year deck) (k + 1)) (λ k. line_conditions sort deck (k + 1)) m
      (λ k h e. line_agrees (k + 1) (subst (λ (n : ℕ). first (up_to (line_conditions sort deck) n) ≡ passed) (omega arith) e))

  end_agrees : no_end (without_year deck) ≡ no_end deck
  unfolding no_end
  end_agrees = ap (λ (k : Kind). not (is_end k)) (ap (λ (n : ℕ). kind_of (line_of (without_year deck) n)) (lines_same deck long) ∙ kinds_same deck long (lines_of deck))

  length_agrees : bad_length sort (without_year deck) ≡ bad_length sort deck
  unfolding bad_length
  length_agrees = ap (λ (n : ℕ). eqb n 0 || ltb (max_length sort) n || not (eqb (n % deck_line_width) 0)) (length_same deck long)

-- blank in place of 2005 changes nothing of where a deck stops
pub status_without : (sort : Sort) (deck : List ℕ) → deck_line_width * site_lines ≤ length deck → is2005 (year_word deck) ≡ true
    → first (conditions sort (without_year deck)) ≡ first (conditions sort deck)
status_without sort deck long y =
    let n = length_agrees sort deck long y in
    let b = lines_same deck long in
    let l = ap (λ (m : ℕ). first (up_to (line_conditions sort (without_year deck)) m)) b ∙ lines_agree sort deck long y (lines_of deck) in
    let e = end_agrees sort deck long y in
    in_order sort (without_year deck)
    ∙ (λ i. cond (n i) (stopped 11 0 0) (or_else (l i) (cond (e i) (stopped 21 (b i + 1) 0) passed)))
    ∙ sym (in_order sort deck)

-- ---- the guidance of such a deck
pub year_printed : (deck : List ℕ) → value_at (case_of deck).site (place_of "year") ≡ value_of (year_word deck)
unfolding value_at case_of case_with record_of year_word slot_spelled place_of place_in owner_of is_in same table
year_printed deck = filled_at (slot_spelled deck 1) Absent site_slots (replicate (slots_per_record - site_slots) Absent) year_slot (lit< tt)

pub guidance_2005 : (w : Word) → is2005 w ≡ true → guidance_of (value_of w) ≡ Of2005
unfolding is2005 value_of guidance_of
guidance_2005 Blank h = refl
guidance_2005 Dash h = absurd (false≢true h)
guidance_2005 (Number digits power) h = named Of2005 digits power h
guidance_2005 Other h = absurd (false≢true h)

pub guidance_2009 : (w : Word) → is2009 w ≡ true → guidance_of (value_of w) ≡ Of2009
unfolding is2009 value_of
guidance_2009 Blank h = absurd (false≢true h)
guidance_2009 Dash h = absurd (false≢true h)
guidance_2009 (Number digits power) h = named Of2009 digits power h
guidance_2009 Other h = absurd (false≢true h)
