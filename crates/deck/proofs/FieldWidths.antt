-- A field has at most twelve columns. Assumes nothing.
use Prim.Native.Nat.{ℕ, ◌+◌, ◌*◌, ◌-◌, ◌≤◌}
use native.Mathlib.Omega.{arith}
use mathlib.Core.Bool.{Bool, true, false, cond}
use mathlib.Core.List.{List, []}
use lib.ListN.{length, take, drop, length-take}
use Rattle.sizes.specs.Sizes.{fields_per_line}
use Rattle.spelling.specs.Columns.{within, field_width}
use Rattle.deck.specs.Parts.{fields_start, field_in}
use Rattle.spelling.specs.Spelling.{unspaced}
use Rattle.spelling.proofs.DigitsHeld.{DigitsHeld, no_digit_limit}

taken_short : (t : Bool) (s : List ℕ) → length (cond t (take field_width s) []) ≤ field_width
taken_short true s = omega (arith, length-take field_width s)
taken_short false s = omega arith

-- every field of every line
pub field_short : (line : List ℕ) (f : ℕ) → length (field_in line f) ≤ field_width
unfolding field_in
field_short line f = taken_short (within 1 fields_per_line f) (drop (fields_start + field_width * (f - 1)) line)

pub field_digits_held : (line : List ℕ) (f : ℕ) → DigitsHeld (unspaced (field_in line f))
field_digits_held line f = no_digit_limit (field_in line f) (field_short line f)
