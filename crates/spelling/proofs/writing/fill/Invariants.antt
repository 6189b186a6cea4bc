-- `spelling::writing::fill` meets its contract. The loop's invariant: the columns left, filled with the digits left after spaces, and those
-- filled already are the whole. Assumes nothing.
use mathlib.Core.Path.{◌≡◌}
use mathlib.Core.List.{[], ◌∷◌, ◌++◌}
use Prim.Native.Nat.{◌-◌, ◌<◌}
use lib.ListN.{length, drop}
use Rattle.spelling.specs.Columns.{digits, justified}
use Rattle.spelling.proofs.writing.fill.Given as goal

abbrev pub invariant-loop-at : goal.invariant-loop-at
invariant-loop-at l = record {
  as_long : length l.part ≡ length l.initial.part;
  inside : l.at < length l.part;
  whole : justified l.at (digits l.at l.left) ++ drop l.at l.part ≡ justified (length l.initial.part) (digits (length l.initial.part - 1) l.n ++ (l.last ∷ []));
}
