-- Laws of a deck's lines and a line's fields: where they stand, and where there is none.
-- Assumes nothing.
use Prim.Native.Nat.{ℕ, ◌+◌, ◌*◌, ◌-◌, ◌/◌, ◌≤◌, ◌<◌}
use native.Mathlib.Omega.{arith}
use mathlib.Core.Path.{◌≡◌}
use mathlib.Core.List.{List, []}
use lib.ListN.{length, take, drop}
use Rattle.sizes.specs.Sizes.{fields_per_line}
use Rattle.spelling.specs.Columns.{field_width}
use Rattle.deck.specs.Parts.{deck_line_width, fields_start, lines_of, line_of, field_in}
use Rattle.spelling.proofs.Leading.{within_yes, within_low, within_high}

module _ (deck : List ℕ) where
  pub line_zero : (n : ℕ) → n ≡ 0 → [] ≡ line_of deck n
  unfolding line_of
  line_zero n e = simp (within_low 1 (lines_of deck) n (omega arith))

  pub line_past : (n : ℕ) → length deck / deck_line_width < n → [] ≡ line_of deck n
  unfolding line_of lines_of
  line_past n h = simp (within_high 1 (length deck / deck_line_width) n h)

  pub line_is : (n : ℕ) → 1 ≤ n → n ≤ length deck / deck_line_width → line_of deck n ≡ take deck_line_width (drop (deck_line_width * (n - 1)) deck)
  unfolding line_of lines_of
  line_is n p q = simp (within_yes 1 (length deck / deck_line_width) n p q)

module _ (line : List ℕ) where
  pub field_zero : (f : ℕ) → f ≡ 0 → [] ≡ field_in line f
  unfolding field_in
  field_zero f e = simp (within_low 1 fields_per_line f (omega arith))

  pub field_past : (f : ℕ) → fields_per_line < f → [] ≡ field_in line f
  unfolding field_in
  field_past f h = simp (within_high 1 fields_per_line f h)

  pub field_is : (f : ℕ) → 1 ≤ f → f ≤ fields_per_line → field_in line f ≡ take field_width (drop (fields_start + field_width * (f - 1)) line)
  unfolding field_in
  field_is f p q = simp (within_yes 1 fields_per_line f p q)
