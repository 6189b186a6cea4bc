-- `spelling::reading::leading_digits` meets its contract. The invariant: what was passed, and what leads in the rest, make up the whole; the value is that of what was passed, and there is room for the rest.
-- Assumes nothing.
use Prim.Native.Nat.{◌+◌, ◌*◌, ◌-◌, ◌^◌, ◌≤◌}
use mathlib.Core.Path.{◌≡◌}
use lib.ListN.{length, take, drop}
use Rattle.spelling.specs.Columns.{leading, digits_value}
use Rattle.spelling.proofs.reading.leading_digits.Given as goal

abbrev pub invariant-loop-count : goal.invariant-loop-count
invariant-loop-count l = record {
  led : l.count + leading 48 57 (drop l.count l.s) ≡ leading 48 57 l.s;
  read : digits_value l.from (take l.count l.s) ≡ l.value;
  room : (l.value + 1) * 10 ^ (length l.s - l.count) ≤ 10000000000000;
}
