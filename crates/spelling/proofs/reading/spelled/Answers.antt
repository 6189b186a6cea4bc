-- `spelling::reading::spelled` meets its contract: one law for each way out.
-- Assumes nothing.
use Rattle.spelling.proofs.WordLaws.{whole_is, whole_value, whole_within, spelled_none, spelled_long, spelled_pointed, spelled_whole}
use native.Mathlib.Omega.{arith}
use Prim.Native.Nat.{ℕ}
use mathlib.Core.Path.{◌≡◌, ap, ◌∙◌}
use mathlib.Core.List.{List}
use borrow.Author.Rules.{rules}
use lib.ListN.{take, get_or}
use Rattle.spelling.specs.Columns.{leading, digits_value}
use Rattle.spelling.proofs.reading.spelled.Goals.{in_default-via-in-Some+in_default, in_default-via-in_default}
use Rattle.spelling.proofs.reading.spelled.Goals as goal

pub returns-then-whole-eq0 : goal.returns-then-whole-eq0
returns-then-whole-eq0 c =
    let text = c.args.text.now in
    let count = c.leading_digits-whole.ensures.count_value ∙ ap (leading 48 57) c.front.ensures in
    let value = c.leading_digits-whole.ensures.value_value ∙ ap (λ (l : List ℕ). digits_value 0 (take (leading 48 57 l) l)) c.front.ensures in
    spelled_none text _ _ count value c.if-whole-eq0.true

pub returns-then-whole-gt-MAX_DIGITS : goal.returns-then-whole-gt-MAX_DIGITS
returns-then-whole-gt-MAX_DIGITS c =
    let text = c.args.text.now in
    let count = c.leading_digits-whole.ensures.count_value ∙ ap (leading 48 57) c.front.ensures in
    let value = c.leading_digits-whole.ensures.value_value ∙ ap (λ (l : List ℕ). digits_value 0 (take (leading 48 57 l) l)) c.front.ensures in
    spelled_long text _ _ count value c.if-whole-gt-MAX_DIGITS.true

pub pointed-requires-clause-count_value : goal.pointed-requires-clause-count_value
pointed-requires-clause-count_value c =
    let text = c.args.text.now in
    let count = c.leading_digits-whole.ensures.count_value ∙ ap (leading 48 57) c.front.ensures in
    let value = c.leading_digits-whole.ensures.value_value ∙ ap (λ (l : List ℕ). digits_value 0 (take (leading 48 57 l) l)) c.front.ensures in
    (whole_is text _ _ count value (omega arith), whole_value text _ _ count value (omega arith))

pub returns-in-Some-eq46 : goal.returns-in-Some-eq46
returns-in-Some-eq46 c =
    let text = c.args.text.now in
    let count = c.leading_digits-whole.ensures.count_value ∙ ap (leading 48 57) c.front.ensures in
    let value = c.leading_digits-whole.ensures.value_value ∙ ap (λ (l : List ℕ). digits_value 0 (take (leading 48 57 l) l)) c.front.ensures in
    let point : get_or text c.leading_digits-whole.result.count 0 ≡ 46 = search rules in
    spelled_pointed text _ _ count value c.if-whole-gt-MAX_DIGITS.false c.if-whole-eq0.false _ point c.pointed.ensures

pub ended-requires : goal.ended-requires
ended-requires c =
    let text = c.args.text.now in
    let count = c.leading_digits-whole.ensures.count_value ∙ ap (leading 48 57) c.front.ensures in
    let value = c.leading_digits-whole.ensures.value_value ∙ ap (λ (l : List ℕ). digits_value 0 (take (leading 48 57 l) l)) c.front.ensures in
    (omega arith, whole_within text _ (whole_is text _ _ count value (omega arith)))

pub returns-in_default : goal.returns-in_default
returns-in_default c =
    let text = c.args.text.now in
    let count = c.leading_digits-whole.ensures.count_value ∙ ap (leading 48 57) c.front.ensures in
    let value = c.leading_digits-whole.ensures.value_value ∙ ap (λ (l : List ℕ). digits_value 0 (take (leading 48 57 l) l)) c.front.ensures in
    let none : get_or text c.leading_digits-whole.result.count 0 ≡ 46 → ⊥ =
    λ q. elim c.in_default.branch [ in_default-via-in-Some+in_default w ↦ search rules | in_default-via-in_default w ↦ search rules ] in
    spelled_whole text _ _ count value c.if-whole-gt-MAX_DIGITS.false c.if-whole-eq0.false _ none c.ended.ensures
