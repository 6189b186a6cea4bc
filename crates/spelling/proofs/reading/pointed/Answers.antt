-- `spelling::reading::pointed` meets its contract: one law for each way out.
-- Assumes nothing.
use Rattle.spelling.proofs.WordLaws.{places_room, pointed_none, pointed_long, pointed_ends, pointed_number}
use native.Mathlib.Omega.{arith}
use Prim.Native.Nat.{ℕ}
use mathlib.Core.Path.{ap, ◌∙◌}
use mathlib.Core.List.{List}
use lib.ListN.{take}
use Rattle.spelling.specs.Columns.{leading, digits_value}
use Rattle.spelling.proofs.reading.pointed.Goals as goal

pub leading_digits-places-requires : goal.leading_digits-places-requires
leading_digits-places-requires c =
    let a = c.args in
    let p = c.requires in
    rw c.front.ensures (places_room a.text.now a.whole.count a.whole.value p.count_value.0 p.count_value.1 p.count_le_max_digits.0)

pub returns-then-places-eq0 : goal.returns-then-places-eq0
returns-then-places-eq0 c =
    let a = c.args in
    let p = c.requires in
    let count = c.leading_digits-places.ensures.count_value ∙ ap (leading 48 57) c.front.ensures in
    pointed_none a.text.now a.whole.count a.whole.value p.count_value.0 p.count_value.1 p.count_le_max_digits.0 _ count c.if-places-eq0.true

pub overflow_add-whole : goal.overflow_add-whole
overflow_add-whole c =
    let a = c.args in
    let p = c.requires in
    let count = c.leading_digits-places.ensures.count_value ∙ ap (leading 48 57) c.front.ensures in
    omega (arith, pointed_ends a.text.now a.whole.count a.whole.value p.count_value.0 p.count_value.1 p.count_le_max_digits.0 _ count p.count_le_max_digits.1, p.count_le_max_digits.0)

pub returns-then-whole-places-gt-MAX_DIGITS : goal.returns-then-whole-places-gt-MAX_DIGITS
returns-then-whole-places-gt-MAX_DIGITS c =
    let a = c.args in
    let p = c.requires in
    let count = c.leading_digits-places.ensures.count_value ∙ ap (leading 48 57) c.front.ensures in
    pointed_long a.text.now a.whole.count a.whole.value p.count_value.0 p.count_value.1 p.count_le_max_digits.0 _ count c.if-whole-places-gt-MAX_DIGITS.true

pub ended-requires : goal.ended-requires
ended-requires c =
    let a = c.args in
    let p = c.requires in
    let count = c.leading_digits-places.ensures.count_value ∙ ap (leading 48 57) c.front.ensures in
    omega (arith, pointed_ends a.text.now a.whole.count a.whole.value p.count_value.0 p.count_value.1 p.count_le_max_digits.0 _ count p.count_le_max_digits.1, p.count_le_max_digits.1, c.if-whole-places-gt-MAX_DIGITS.false)

pub returns : goal.returns
returns c =
    let a = c.args in
    let p = c.requires in
    let count = c.leading_digits-places.ensures.count_value ∙ ap (leading 48 57) c.front.ensures in
    let value = c.leading_digits-places.ensures.value_value ∙ ap (λ (l : List ℕ). digits_value a.whole.value (take (leading 48 57 l) l)) c.front.ensures in
    pointed_number a.text.now a.whole.count a.whole.value p.count_value.0 p.count_value.1 p.count_le_max_digits.0 _ count c.if-places-eq0.false c.if-whole-places-gt-MAX_DIGITS.false _ value _ c.ended.ensures
