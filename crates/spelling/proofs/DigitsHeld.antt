-- No part of a field's columns is refused for its digits. Assumes nothing.
use Prim.Native.Nat.{ℕ, ◌+◌, ◌≤◌}
use native.Mathlib.Omega.{arith}
use mathlib.Core.Path.{◌≡◌}
use mathlib.Core.Bool.{true}
use mathlib.Core.List.{List}
use borrow.Author.Tests.{le-leb}
use lib.Dec.{leb}
use lib.ListN.{length, drop, length-drop}
use Rattle.spelling.specs.Columns.{leading, field_width}
use Rattle.spelling.specs.Spelling.{digits_of, unspaced, max_digits}
use Rattle.spelling.proofs.DigitLaws.{leading_le}

-- the digit test of `ended_of` holds of a text with a point after its first digits, and of one without
abbrev pub DigitsHeld : List ℕ → Type 0
DigitsHeld text =
    (leb (digits_of text + digits_of (drop (digits_of text + 1) text)) max_digits ≡ true) × (leb (digits_of text + 0) max_digits ≡ true)

short_held : (text : List ℕ) → length text ≤ field_width → DigitsHeld text
short_held text h =
    let rest = drop (digits_of text + 1) text in
    let w = leading_le 48 57 text in
    let p = leading_le 48 57 rest in
    let l = length-drop (digits_of text + 1) text in
    (le-leb (digits_of text + digits_of rest) max_digits (omega arith), le-leb (digits_of text + 0) max_digits (omega arith))

-- a part of at most twelve bytes, whatever it holds
pub no_digit_limit : (part : List ℕ) → length part ≤ field_width → DigitsHeld (unspaced part)
no_digit_limit part h = short_held (unspaced part) (omega (arith, length-drop (leading 32 32 part) part))
