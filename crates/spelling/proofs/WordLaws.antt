-- Laws of ids and numbers as they are spelled: one for each way out of the functions that read them.
-- Assumes nothing.
use Prim.Native.Nat.{ℕ, suc, ◌+◌, ◌*◌, ◌-◌, ◌^◌, ◌≤◌, ◌<◌}
use native.Mathlib.Nat.{le_trans, one-mul, mul-le-mul_right}
use native.Mathlib.Omega.{arith}
use lib.Pow.{pow-add}
use mathlib.Core.Path.{◌≡◌, refl, sym, ap, ◌∙◌, subst}
use mathlib.Core.Bool.{Bool, true, false, cond, not, ◌&&◌}
use mathlib.Core.List.{List, [], ◌∷◌, append-nil}
use borrow.Author.Tests.{eq-eqb, ne_eqb, eqb-true, le-leb, lt-leb, lt-ltb, le-ltb, not-true, not-false, ltb-true, ltb-false}
use lib.Dec.{leb, ltb, eqb, lit≤}
use lib.IntN.{ℤ, sub_ℕ}
use Rattle.std.specs.Prelude.{Some, None}
use lib.ListN.{get_or-eq_default, length, take, drop, get_or, length-drop}
use lib.Seq.{take_all, take-take}
use Rattle.spelling.specs.Columns.{id_width, within, leading, digits_value}
use Rattle.spelling.specs.Spelling.{unspaced, id_spelled, id_in, sign_spelled, exponent_spelled, power_of, digits_read, max_digits, ended_of, pointed_of, spelled_of, lone_dash, word_of}
use Rattle.spelling.specs.declared.Word.{Word}
use Rattle.spelling.specs.declared.Word.TheVariants.{Blank, Dash, Number, Other}
use Rattle.lists.proofs.Booleans.{and-false, both}
use Rattle.spelling.proofs.Leading.{front_le, front_all}
use Rattle.spelling.proofs.DigitLaws.{within_bounds_lem, leading_le, leading_take, digits_value_below, digits_value_append}
use Rattle.lists.proofs.ListLaws.{tail_part, take_short}
use Rattle.powers.proofs.PowerLaws.{tens}

-- ---- a byte
pub byte_past : (s : List ℕ) (at b : ℕ) → 0 < b → length s ≤ at → false ≡ eqb (get_or s at 0) b
byte_past s at b h l =
    let e : get_or s at 0 ≡ 0 = get_or-eq_default s 0 l in
    sym (ne_eqb (get_or s at 0) b (λ q. omega arith))

-- ---- the exponent
pub sign_plus : (tail : List ℕ) (r : Bool) → r ≡ eqb (get_or tail 1 0) 43 → r ≡ true → true ≡ sign_spelled tail
unfolding sign_spelled
sign_plus tail r e h = simp (sym e ∙ h)

pub sign_minus : (tail : List ℕ) (r q : Bool) → r ≡ eqb (get_or tail 1 0) 43 → r ≡ false → q ≡ eqb (get_or tail 1 0) 45 → q ≡ sign_spelled tail
unfolding sign_spelled
sign_minus tail r q e h f = simp (sym e ∙ h) f

both_digits : (a b : Bool) → eqb (cond a (suc (cond b 1 0)) 0) 2 ≡ (a && b)
both_digits true true = refl
both_digits true false = refl
both_digits false b = refl

two_leading : (tail : List ℕ) → length tail ≡ 4 → leading 48 57 (drop 2 tail) ≡ cond (within 48 57 (get_or tail 2 0)) (suc (cond (within 48 57 (get_or tail 3 0)) 1 0)) 0
unfolding leading
two_leading (a ∷ b ∷ x ∷ y ∷ []) h = refl
two_leading [] h = absurd (omega arith)
two_leading (a ∷ []) h = absurd (omega arith)
two_leading (a ∷ b ∷ []) h = absurd (omega arith)
two_leading (a ∷ b ∷ x ∷ []) h = absurd (omega arith)
two_leading (a ∷ b ∷ x ∷ y ∷ z ∷ zs) h = absurd (omega arith)

pub exponent_value_lem : (tail : List ℕ) → length tail ≡ 4 → digits_value 0 (drop 2 tail) ≡ (get_or tail 2 0 - 48) * 10 + (get_or tail 3 0 - 48)
unfolding digits_value
exponent_value_lem (a ∷ b ∷ x ∷ y ∷ []) h = omega arith
exponent_value_lem [] h = absurd (omega arith)
exponent_value_lem (a ∷ []) h = absurd (omega arith)
exponent_value_lem (a ∷ b ∷ []) h = absurd (omega arith)
exponent_value_lem (a ∷ b ∷ x ∷ []) h = absurd (omega arith)
exponent_value_lem (a ∷ b ∷ x ∷ y ∷ z ∷ zs) h = absurd (omega arith)

-- the last two bytes of four
two_digits : (tail : List ℕ) → length tail ≡ 4 → eqb (leading 48 57 (drop 2 tail)) 2 ≡ (within 48 57 (get_or tail 2 0) && within 48 57 (get_or tail 3 0))
two_digits tail h = ap (λ (n : ℕ). eqb n 2) (two_leading tail h) ∙ both_digits (within 48 57 (get_or tail 2 0)) (within 48 57 (get_or tail 3 0))

pub exponent_read : (tail : List ℕ) → length tail ≡ 4 → get_or tail 0 0 ≡ 69 → sign_spelled tail ≡ true
    → exponent_spelled tail ≡ (within 48 57 (get_or tail 2 0) && within 48 57 (get_or tail 3 0))
unfolding exponent_spelled
exponent_read tail four e sign = simp (four, e, sign, two_digits tail four)

module _ (tail : List ℕ) where
  pub exponent_none : length tail ≡ 0 → true ≡ exponent_spelled tail
  unfolding exponent_spelled
  exponent_none h = simp (eq-eqb (length tail) 0 h)

  pub exponent_length : (length tail ≡ 0 → ⊥) → (length tail ≡ 4 → ⊥) → false ≡ exponent_spelled tail
  unfolding exponent_spelled
  exponent_length h k = simp (ne_eqb (length tail) 0 h, ne_eqb (length tail) 4 k)

  pub exponent_e : length tail ≡ 4 → (r : Bool) → r ≡ eqb (get_or tail 0 0) 69 → not r ≡ true → false ≡ exponent_spelled tail
  unfolding exponent_spelled
  exponent_e h r e f = simp (h, sym e ∙ not-true r f)

  pub exponent_sign : length tail ≡ 4 → (r q : Bool) → r ≡ eqb (get_or tail 0 0) 69 → not r ≡ false → q ≡ sign_spelled tail → not q ≡ true
      → false ≡ exponent_spelled tail
  unfolding exponent_spelled
  exponent_sign h r q e f g k = simp (h, sym e ∙ not-false r f, sym g ∙ not-true q k)

  module _ (h : length tail ≡ 4) (r q : Bool) (e : r ≡ eqb (get_or tail 0 0) 69) (f : not r ≡ false) (g : q ≡ sign_spelled tail) (k : not q ≡ false) (t : Bool)
      (d : t ≡ within 48 57 (get_or tail 2 0)) where
    spelled_so : (within 48 57 (get_or tail 2 0) && within 48 57 (get_or tail 3 0)) ≡ exponent_spelled tail
    spelled_so = sym (exponent_read tail h (eqb-true (get_or tail 0 0) 69 (sym e ∙ not-false r f)) (sym g ∙ not-false q k))

    pub exponent_first : not t ≡ true → false ≡ exponent_spelled tail
    exponent_first l = sym (ap (λ (b : Bool). b && within 48 57 (get_or tail 3 0)) (sym d ∙ not-true t l)) ∙ spelled_so

    pub exponent_second : not t ≡ false → (u : Bool) → u ≡ within 48 57 (get_or tail 3 0) → u ≡ exponent_spelled tail
    exponent_second l u v = v ∙ sym (ap (λ (b : Bool). b && within 48 57 (get_or tail 3 0)) (sym d ∙ not-false t l)) ∙ spelled_so

  -- what is known of an exponent that is spelled
  module _ (s : exponent_spelled tail ≡ true) where
    spelled_facts : (length tail ≡ 0 → ⊥) → (length tail ≡ 4) × (eqb (leading 48 57 (drop 2 tail)) 2 ≡ true)
    unfolding exponent_spelled
    spelled_facts h =
        let t : (eqb (length tail) 4 && eqb (get_or tail 0 0) 69 && sign_spelled tail && eqb (leading 48 57 (drop 2 tail)) 2) ≡ true =
        simp (ne_eqb (length tail) 0 h) at s in
        let p = both (eqb (length tail) 4 && eqb (get_or tail 0 0) 69 && sign_spelled tail) (eqb (leading 48 57 (drop 2 tail)) 2) t in
        let q = both (eqb (length tail) 4 && eqb (get_or tail 0 0) 69) (sign_spelled tail) p.0 in
        let u = both (eqb (length tail) 4) (eqb (get_or tail 0 0) 69) q.0 in
        (eqb-true (length tail) 4 u.0, p.1)

    pub exponent_four : (length tail ≡ 0 → ⊥) → length tail ≡ 4
    exponent_four h = (spelled_facts h).0

    module _ (h : length tail ≡ 4) where
      pub exponent_bytes : ((48 ≤ get_or tail 2 0) × (get_or tail 2 0 ≤ 57)) × ((48 ≤ get_or tail 3 0) × (get_or tail 3 0 ≤ 57))
      exponent_bytes =
          let b = both (within 48 57 (get_or tail 2 0)) (within 48 57 (get_or tail 3 0)) (sym (two_digits tail h) ∙ (spelled_facts (λ z. omega arith)).1) in
          (within_bounds_lem 48 57 (get_or tail 2 0) b.0, within_bounds_lem 48 57 (get_or tail 3 0) b.1)

      pub exponent_small : digits_value 0 (drop 2 tail) < 100
      exponent_small = omega (arith, exponent_value_lem tail h, exponent_bytes)

pub no_exponent : (s : List ℕ) (v : ℕ) → length s ≡ 0 → digits_value v (drop 2 s) ≡ v
unfolding digits_value
no_exponent [] v h = refl
no_exponent (x ∷ xs) v h = absurd (omega arith)

module _ (tail : List ℕ) (places : ℕ) (r : Bool) (e : r ≡ eqb (get_or tail 1 0) 45) (n : ℕ) (d : n ≡ digits_value 0 (drop 2 tail)) where
  pub power_minus : r ≡ true → sub_ℕ 0 (places + n) ≡ power_of tail places
  unfolding power_of
  power_minus h = simp (sym e ∙ h) (ap (λ (m : ℕ). sub_ℕ 0 (places + m)) d)

  pub power_plus : r ≡ false → sub_ℕ n places ≡ power_of tail places
  unfolding power_of
  power_plus h = simp (sym e ∙ h) (ap (λ (m : ℕ). sub_ℕ m places) d)

pub power_plain : (tail : List ℕ) (places : ℕ) → length tail ≡ 0 → sub_ℕ 0 places ≡ power_of tail places
unfolding power_of
power_plain tail places h =
    let none : get_or tail 1 0 ≡ 0 = get_or-eq_default tail 0 (omega arith) in
    simp (none, no_exponent tail 0 h)

-- ---- a lone -
pub dash_length : (text : List ℕ) → (length text ≡ 1 → ⊥) → false ≡ lone_dash text
unfolding lone_dash
dash_length text h = simp (ne_eqb (length text) 1 h)

pub dash_byte : (text : List ℕ) → length text ≡ 1 → (r : Bool) → r ≡ eqb (get_or text 0 0) 45 → r ≡ lone_dash text
unfolding lone_dash
dash_byte text h r e = simp h e

-- room for k digits more
pub digits_room : (s : List ℕ) → leading 48 57 s ≡ length s → (n : ℕ) → n ≡ digits_value 0 s → (k m : ℕ) → length s + k ≤ m → (n + 1) * 10 ^ k ≤ 10 ^ m
digits_room s d n e k m h =
    let b : digits_value 0 s + 1 ≤ 1 * 10 ^ length s = digits_value_below s d 0 1 (lit≤ tt) in
    let p : n + 1 ≤ 10 ^ length s = omega (arith, one-mul (10 ^ length s)) in
    le_trans (mul-le-mul_right (10 ^ k) p) (subst (λ (x : ℕ). x ≤ 10 ^ m) (pow-add 10 (length s) k) (tens (length s + k) m h))

-- the first digits of a number, of which one more than it may have are looked at
pub first_room : (text : List ℕ) → (0 + 1) * 10 ^ length (take 13 text) ≤ 10000000000000
first_room text = rw one-mul (tens (length (take 13 text)) 13 (take_short 13 text))

-- ---- a number
module _ (text : List ℕ) (digits places end : ℕ) (r : Bool) (e : r ≡ exponent_spelled (take (length text - end) (drop end text))) where
  exponent_is : r ≡ exponent_spelled (drop end text)
  exponent_is = e ∙ ap exponent_spelled (tail_part text end)

  abbrev Ended : Word
  Ended = cond (exponent_spelled (drop end text)) (Number digits (power_of (drop end text) places)) Other

  pub ended_tail : not r ≡ true → Other ≡ Ended
  ended_tail h = simp (sym exponent_is ∙ not-true r h)

  pub ended_spelled : not r ≡ false → exponent_spelled (take (length text - end) (drop end text)) ≡ true
  ended_spelled h = sym e ∙ not-false r h

  pub ended_number : not r ≡ false → (p : ℤ) → p ≡ power_of (take (length text - end) (drop end text)) places → Number digits p ≡ Ended
  ended_number h p g =
      simp (sym exponent_is ∙ not-false r h) (ap (Number digits) (g ∙ ap (λ (t : List ℕ). power_of t places) (tail_part text end)))

module _ (text : List ℕ) (whole places end : ℕ) where
  ended_long : max_digits < whole + places → ended_of text whole places end ≡ Other
  unfolding ended_of
  ended_long h = simp (lt-leb (whole + places) max_digits h)

  ended_few : whole + places ≤ max_digits → (d : ℕ) → d ≡ digits_read text whole places → (r : Word)
      → r ≡ cond (exponent_spelled (drop end text)) (Number d (power_of (drop end text) places)) Other → r ≡ ended_of text whole places end
  unfolding ended_of
  ended_few few d f r g =
      simp (le-leb (whole + places) max_digits few) (g ∙ ap (λ (n : ℕ). cond (exponent_spelled (drop end text)) (Number n (power_of (drop end text) places)) Other) f)

either_other : (t : Bool) → Other ≡ cond t Other Other
either_other true = refl
either_other false = refl

-- the digits after the point, of which as many are looked at
module _ (text : List ℕ) (whole n : ℕ) (w : whole ≡ leading 48 57 text) (v : n ≡ digits_value 0 (take (leading 48 57 text) text)) (few : whole ≤ max_digits) where
  abbrev rest : List ℕ
  rest = take (length text - (whole + 1)) (drop (whole + 1) text)

  abbrev looked : List ℕ
  looked = take (13 - whole) rest

  rest_is : rest ≡ drop (whole + 1) text
  rest_is = tail_part text (whole + 1)

  pub places_room : (n + 1) * 10 ^ length looked ≤ 10000000000000
  places_room =
      digits_room (take (leading 48 57 text) text) (leading_take 48 57 text) n v (length looked) 13
      (omega (arith, take_short (leading 48 57 text) text, take_short (13 - whole) rest))

  module _ (places : ℕ) (e : places ≡ leading 48 57 looked) where
    seen : places ≤ leading 48 57 (drop (whole + 1) text)
    seen = subst (λ (l : List ℕ). places ≤ leading 48 57 l) rest_is (subst (λ (k : ℕ). k ≤ leading 48 57 rest) (sym e) (front_le 48 57 (13 - whole) rest))

    places_are : places < 13 - whole → places ≡ leading 48 57 (drop (whole + 1) text)
    places_are h = e ∙ front_all 48 57 (13 - whole) rest (subst (λ (k : ℕ). k < 13 - whole) e h) ∙ ap (leading 48 57) rest_is

    pub pointed_none : places ≡ 0 → Other ≡ pointed_of text whole
    unfolding pointed_of
    pointed_none z = simp (sym (places_are (omega arith)) ∙ z)

    pub pointed_long : max_digits < whole + places → Other ≡ pointed_of text whole
    unfolding pointed_of
    pointed_long h =
        let p = leading 48 57 (drop (whole + 1) text) in
        rw (ended_long text whole p (whole + 1 + p) (omega (arith, seen))) (either_other (eqb p 0))

    pub pointed_ends : whole < length text → places ≤ length text - (whole + 1)
    pointed_ends h = omega (arith, seen, leading_le 48 57 (drop (whole + 1) text), length-drop (whole + 1) text)

    pub pointed_number : (places ≡ 0 → ⊥) → whole + places ≤ max_digits → (d : ℕ) → d ≡ digits_value n (take (leading 48 57 looked) looked) → (r : Word)
        → r ≡ cond (exponent_spelled (drop (whole + 1 + places) text)) (Number d (power_of (drop (whole + 1 + places) text) places)) Other → r ≡ pointed_of text whole
    unfolding pointed_of digits_read
    pointed_number z h d f r g =
        let after : take (leading 48 57 looked) looked ≡ take places (drop (whole + 1) text) =
        ap (λ (k : ℕ). take k looked) (sym e) ∙ take-take places (13 - whole) rest (omega arith) ∙ ap (take places) rest_is in
        let read : d ≡ digits_read text whole places =
        f
        ∙ ap (digits_value n) after
        ∙ ap (λ (k : ℕ). digits_value k (take places (drop (whole + 1) text))) (v ∙ ap (λ (k : ℕ). digits_value 0 (take k text)) (sym w))
        ∙ sym (digits_value_append 0 (take whole text) (take places (drop (whole + 1) text))) in
        rw (← places_are (omega arith)) (simp (ne_eqb places 0 z) (ended_few text whole places (whole + 1 + places) h d read r g))

-- the digits before it
module _ (text : List ℕ) (whole n : ℕ) (e : whole ≡ leading 48 57 (take 13 text)) (v : n ≡ digits_value 0 (take (leading 48 57 (take 13 text)) (take 13 text))) where
  pub whole_is : whole < 13 → whole ≡ leading 48 57 text
  whole_is h = e ∙ front_all 48 57 13 text (subst (λ (k : ℕ). k < 13) e h)

  pub whole_value : whole < 13 → n ≡ digits_value 0 (take (leading 48 57 text) text)
  whole_value h =
      v
      ∙ ap (digits_value 0) (take-take (leading 48 57 (take 13 text)) 13 text (omega (arith, e)))
      ∙ ap (λ (k : ℕ). digits_value 0 (take k text)) (sym e ∙ whole_is h)

  pub spelled_none : whole ≡ 0 → Other ≡ spelled_of text
  unfolding spelled_of
  spelled_none h = simp (sym (whole_is (omega arith)) ∙ h)

  pub spelled_long : max_digits < whole → Other ≡ spelled_of text
  unfolding spelled_of pointed_of
  spelled_long h =
      let w = leading 48 57 text in
      let p = leading 48 57 (drop (w + 1) text) in
      let many : max_digits < w = omega (arith, e, front_le 48 57 13 text) in
      rw (ended_long text w p (w + 1 + p) (omega arith), ended_long text w 0 w (omega arith), ← either_other (eqb p 0), ← either_other (eqb (get_or text w 0) 46))
      (either_other (eqb w 0))

  module _ (few : whole ≤ max_digits) (z : whole ≡ 0 → ⊥) (r : Bool) (f : r ≡ eqb (get_or text whole 0) 46) where
    inside : (t : Bool) → ltb whole (length text) ≡ t → get_or text whole 0 ≡ 46 → whole < length text
    inside true l q = ltb-true whole (length text) l
    inside false l q = absurd (let n : get_or text whole 0 ≡ 0 = get_or-eq_default text 0 (ltb-false whole (length text) l) in omega arith)

    pub point_within : r ≡ true → whole < length text
    point_within h = inside (ltb whole (length text)) refl (eqb-true (get_or text whole 0) 46 (sym f ∙ h))

  module _ (few : whole ≤ max_digits) (z : whole ≡ 0 → ⊥) (r : Word) where
    pub spelled_pointed : get_or text whole 0 ≡ 46 → r ≡ pointed_of text whole → r ≡ spelled_of text
    unfolding spelled_of
    spelled_pointed point g = rw (← whole_is (omega arith)) (simp (ne_eqb whole 0 z, point) g)

    pub spelled_whole : (get_or text whole 0 ≡ 46 → ⊥)
        → r ≡ cond (exponent_spelled (drop whole text)) (Number n (power_of (drop whole text) 0)) Other → r ≡ spelled_of text
    unfolding spelled_of digits_read
    spelled_whole none g =
        let read : n ≡ digits_read text whole 0 =
        whole_value (omega arith)
        ∙ ap (λ (k : ℕ). digits_value 0 (take k text)) (sym (whole_is (omega arith)))
        ∙ ap (digits_value 0) (sym (append-nil (take whole text))) in
        rw (← whole_is (omega arith)) (simp (ne_eqb whole 0 z, ne_eqb (get_or text whole 0) 46 none) (ended_few text whole 0 whole (omega arith) n read r g))

pub whole_within : (text : List ℕ) (whole : ℕ) → whole ≡ leading 48 57 text → whole ≤ length text
whole_within text whole e = omega (arith, leading_le 48 57 text)

-- ---- a part, and an id
module _ (part : List ℕ) (k : ℕ) (e : k ≡ leading 32 32 part) where
  pub text_within : k ≤ length part
  text_within = omega (arith, leading_le 32 32 part)

  pub text_is : take (length part - k) (drop k part) ≡ unspaced part
  text_is = tail_part part k ∙ ap (λ (n : ℕ). drop n part) e

  pub word_blank : length (take (length part - k) (drop k part)) ≡ 0 → Blank ≡ word_of part
  unfolding word_of
  word_blank h = simp (sym (ap length text_is) ∙ h)

  module _ (z : length (take (length part - k) (drop k part)) ≡ 0 → ⊥) (r : Bool) (f : r ≡ lone_dash (take (length part - k) (drop k part))) where
    some : eqb (length (unspaced part)) 0 ≡ false
    some = ap (λ (l : List ℕ). eqb (length l) 0) (sym text_is) ∙ ne_eqb _ 0 z

    dashes : r ≡ lone_dash (unspaced part)
    dashes = f ∙ ap lone_dash text_is

    pub word_dash : r ≡ true → Dash ≡ word_of part
    unfolding word_of
    word_dash h = simp (some, sym dashes ∙ h)

    pub word_spelled : r ≡ false → (w : Word) → w ≡ spelled_of (take (length part - k) (drop k part)) → w ≡ word_of part
    unfolding word_of
    word_spelled h w g = simp (some, sym dashes ∙ h) (g ∙ ap spelled_of text_is)

  pub id_blank : length (take (length part - k) (drop k part)) ≡ 0 → None ≡ id_in part
  unfolding id_in id_spelled
  id_blank h =
      let z : get_or (unspaced part) 0 0 ≡ 0 = get_or-eq_default (unspaced part) 0 (omega (arith, ap length text_is)) in
      simp z

  pub id_first : get_or (take (length part - k) (drop k part)) 0 0 ≤ 48 → None ≡ id_in part
  unfolding id_in id_spelled
  id_first h = simp (le-ltb 48 (get_or (unspaced part) 0 0) (subst (λ (l : List ℕ). get_or l 0 0 ≤ 48) text_is h))

  pub id_long : id_width < length (take (length part - k) (drop k part)) → None ≡ id_in part
  unfolding id_in id_spelled
  id_long h = simp (lt-leb (length (unspaced part)) id_width (subst (λ (l : List ℕ). id_width < length l) text_is h), and-false)

  pub id_ask : length (take (length part - k) (drop k part)) ≤ id_width → (0 + 1) * 10 ^ length (take (length part - k) (drop k part)) ≤ 10000000000000
  id_ask short = rw one-mul (tens (length (take (length part - k) (drop k part))) 13 (omega arith))

  module _ (n : ℕ) (f : n ≡ leading 48 57 (take (length part - k) (drop k part))) where
    pub id_other : (n ≡ length (take (length part - k) (drop k part)) → ⊥) → None ≡ id_in part
    unfolding id_in id_spelled
    id_other h =
        let q : eqb (leading 48 57 (unspaced part)) (length (unspaced part)) ≡ false =
        subst (λ (l : List ℕ). eqb (leading 48 57 l) (length l) ≡ false) text_is (ne_eqb _ _ (λ w. h (f ∙ w))) in
        simp (q, and-false)

    module _ (h : n ≡ length (take (length part - k) (drop k part))) (v : ℕ)
        (g : v ≡ digits_value 0 (take (leading 48 57 (take (length part - k) (drop k part))) (take (length part - k) (drop k part)))) where
      all_digits : v ≡ digits_value 0 (take (length part - k) (drop k part))
      all_digits =
          let s = take (length part - k) (drop k part) in
          g ∙ ap (digits_value 0) (take_all (leading 48 57 s) s (omega (arith, f)))

      pub id_digits : 48 < get_or (take (length part - k) (drop k part)) 0 0 → length (take (length part - k) (drop k part)) ≤ id_width → Some v ≡ id_in part
      unfolding id_in id_spelled
      id_digits first short =
          let a : ltb 48 (get_or (unspaced part) 0 0) ≡ true = lt-ltb _ _ (subst (λ (l : List ℕ). 48 < get_or l 0 0) text_is first) in
          let b : eqb (leading 48 57 (unspaced part)) (length (unspaced part)) ≡ true =
          subst (λ (l : List ℕ). eqb (leading 48 57 l) (length l) ≡ true) text_is (eq-eqb _ _ (sym f ∙ h)) in
          let c : leb (length (unspaced part)) id_width ≡ true = le-leb _ _ (subst (λ (l : List ℕ). length l ≤ id_width) text_is short) in
          simp (a, b, c) (ap Some (all_digits ∙ ap (digits_value 0) text_is))

pub id_fits : (text : List ℕ) → leading 48 57 text ≡ length text → length text ≤ id_width → digits_value 0 (take (leading 48 57 text) text) < 1000000
id_fits text all short =
    let read : take (leading 48 57 text) text ≡ text = take_all (leading 48 57 text) text (omega (arith, all)) in
    let b : digits_value 0 text + 1 ≤ 1 * 10 ^ length text = digits_value_below text all 0 1 (lit≤ tt) in
    let t : 10 ^ length text ≤ 10 ^ id_width = tens (length text) id_width short in
    omega (arith, one-mul (10 ^ length text), ap (digits_value 0) read)
