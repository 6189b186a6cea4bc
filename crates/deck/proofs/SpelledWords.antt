-- Every field that holds a number holds one that `Spelled` allows.
-- Assumes nothing.
use Prim.Native.Nat.{ℕ, suc, ◌+◌, ◌-◌, ◌^◌, ◌≤◌, ◌<◌}
use native.Mathlib.Nat.{le_refl, eq-zero-or-pos}
use native.Mathlib.Omega.{arith}
use mathlib.Core.Path.{◌≡◌, refl, subst}
use mathlib.Core.Logic.{◌⊎◌, inl, inr, ⊎_elim}
use mathlib.Core.Bool.{Bool, true, false, cond, ◌&&◌}
use mathlib.Core.List.{List, [], ◌∷◌}
use borrow.Author.Tests.{leb-true, ltb-true}
use lib.Dec.{leb, ltb, eqb}
use lib.IntN.{ℤ, pos, negsuc, sub_ℕ}
use lib.ListN.{length, get_or, take, drop, length-take, length-drop}
use Rattle.spelling.specs.Columns.{leading, field_width, digits_value}
use Rattle.deck.specs.Parts.{field_in}
use Rattle.spelling.specs.Spelling.{unspaced, exponent_spelled, power_of, digits_read, max_digits, ended_of, pointed_of, spelled_of, lone_dash, word_of}
use Rattle.powers.specs.Powers.{above, below}
use Rattle.slots.proofs.SlotLaws.{places}
use Rattle.cases.specs.Ranged.{Spelled}
use Rattle.spelling.specs.declared.Word.{Word}
use Rattle.spelling.specs.declared.Word.TheVariants.{Blank, Dash, Number, Other}
use Rattle.lists.proofs.Booleans.{both}
use Rattle.spelling.proofs.DigitLaws.{leading_le, leading_take, digits_value_append, digits_value_below}
use Rattle.spelling.proofs.WordLaws.{digits_room, exponent_four, exponent_small, power_plain}
use Rattle.deck.proofs.FieldWidths.{field_short}

-- a word that is a number is one that a field may spell
abbrev pub Small : Word → Type 0
Small Blank = Unit {0}
Small Dash = Unit {0}
Small (Number digits power) = Spelled digits power
Small Other = Unit {0}

-- ---- every field that holds a number is as `Spelled` says
pub choose : (P : Word → Type 0) (t : Bool) (v w : Word) → (t ≡ true → P v) → (t ≡ false → P w) → P (cond t v w)
choose P true v w p q = p refl
choose P false v w p q = q refl

sub_above : (t : Bool) (a b : ℕ) → ltb a b ≡ t → above (cond t (negsuc (b - suc a)) (pos (a - b))) ≤ a
unfolding above
sub_above true a b e = omega arith
sub_above false a b e = omega arith

sub_below : (t : Bool) (a b : ℕ) → ltb a b ≡ t → below (cond t (negsuc (b - suc a)) (pos (a - b))) ≤ b
unfolding below
sub_below true a b e = omega (arith, ltb-true a b e)
sub_below false a b e = omega arith

exponent_at_most : (tail : List ℕ) (t : Bool) → exponent_spelled tail ≡ true → eqb (length tail) 0 ≡ t → digits_value 0 (drop 2 tail) ≤ 99
unfolding digits_value
exponent_at_most [] t s e = omega arith
exponent_at_most (x ∷ xs) t s e =
    omega (arith, exponent_small (x ∷ xs) s (exponent_four (x ∷ xs) s (λ z. omega arith)))

power_small : (t : Bool) (tail : List ℕ) (places : ℕ) → exponent_spelled tail ≡ true → places ≤ max_digits
    → (above (cond t (sub_ℕ 0 (places + digits_value 0 (drop 2 tail))) (sub_ℕ (digits_value 0 (drop 2 tail)) places)) ≤ 99)
    × (below (cond t (sub_ℕ 0 (places + digits_value 0 (drop 2 tail))) (sub_ℕ (digits_value 0 (drop 2 tail)) places)) ≤ 111)
power_small true tail places s h =
    let x = exponent_at_most tail (eqb (length tail) 0) s refl in
    let b = places + digits_value 0 (drop 2 tail) in
    (omega (arith, sub_above (ltb 0 b) 0 b refl), omega (arith, sub_below (ltb 0 b) 0 b refl))
power_small false tail places s h =
    let x = exponent_at_most tail (eqb (length tail) 0) s refl in
    let a = digits_value 0 (drop 2 tail) in
    (omega (arith, sub_above (ltb a places) a places refl), omega (arith, sub_below (ltb a places) a places refl))

module _ (text : List ℕ) (whole places : ℕ) (before : leading 48 57 (take whole text) ≡ length (take whole text))
    (after : leading 48 57 (take places (drop (whole + 1) text)) ≡ length (take places (drop (whole + 1) text))) where
  digits_small : (k : ℕ) → whole + places ≤ k → digits_read text whole places < 10 ^ k
  unfolding digits_read
  digits_small k few =
      let n = digits_value 0 (take whole text) in
      let rest = take places (drop (whole + 1) text) in
      let room = digits_room (take whole text) before n refl (length rest) k (omega (arith, length-take whole text, length-take places (drop (whole + 1) text))) in
      omega (arith, digits_value_append 0 (take whole text) rest, digits_value_below rest after n (n + 1) (le_refl (n + 1)), room)

  -- the digits, and an exponent after them, share the columns of a field
  module _ (end : ℕ) (short : length text ≤ field_width) (past : whole + places ≤ end) (near : places ≤ 11) where
    ended_fine : exponent_spelled (drop end text) ≡ true → (below (power_of (drop end text) places) ≤ 11) ⊎ (digits_read text whole places < 100000000)
    ended_fine s =
        ⊎_elim
        (λ z. inl (subst (λ (p : ℤ). below p ≤ 11) (power_plain (drop end text) places z) (omega (arith, sub_below (ltb 0 places) 0 places refl))))
        (λ p. inr (digits_small 8 (omega (arith, exponent_four (drop end text) s (λ z. omega arith), length-drop end text))))
        (eq-zero-or-pos (length (drop end text)))

    ended_small : Small (ended_of text whole places end)
    unfolding ended_of power_of
    ended_small =
        choose Small (leb (whole + places) max_digits && exponent_spelled (drop end text)) _ Other
        (λ t.
        let b = both (leb (whole + places) max_digits) (exponent_spelled (drop end text)) t in
        let few = leb-true (whole + places) max_digits b.0 in
        let p = power_small (eqb (get_or (drop end text) 1 0) 45) (drop end text) places b.1 (omega arith) in
        record { twelve = digits_small 12 few; high = p.0; low = p.1; fine = ended_fine b.1 })
        (λ t. tt)

module _ (text : List ℕ) (short : length text ≤ field_width) where
  pointed_small : (whole : ℕ) → leading 48 57 (take whole text) ≡ length (take whole text) → Small (pointed_of text whole)
  unfolding pointed_of
  pointed_small whole b =
      let rest = drop (whole + 1) text in
      let places = leading 48 57 rest in
      choose Small (eqb places 0) Other _ (λ t. tt)
      (λ t.
      ended_small text whole places b (leading_take 48 57 rest) (whole + 1 + places) short (omega arith)
      (omega (arith, leading_le 48 57 rest, length-drop (whole + 1) text)))

  spelled_small : Small (spelled_of text)
  unfolding spelled_of leading
  spelled_small =
      let whole = leading 48 57 text in
      let b = leading_take 48 57 text in
      choose Small (eqb whole 0) Other _ (λ t. tt)
      (λ t. choose Small (eqb (get_or text whole 0) 46) _ _ (λ u. pointed_small whole b) (λ u. ended_small text whole 0 b refl whole short (omega arith) (omega arith)))

word_small : (part : List ℕ) → length part ≤ field_width → Small (word_of part)
unfolding word_of
word_small part h =
    let text = unspaced part in
    choose Small (eqb (length text) 0) Blank _ (λ t. tt)
    (λ t. choose Small (lone_dash text) Dash _ (λ u. tt) (λ u. spelled_small text (omega (arith, length-drop (leading 32 32 part) part))))

pub field_small : (line : List ℕ) (f : ℕ) → Small (word_of (field_in line f))
field_small line f = word_small (field_in line f) (field_short line f)
