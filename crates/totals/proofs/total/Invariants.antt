-- `totals::total` meets its contract. The loop's invariant: the sum so far and that of the numbers left are the list's sum, and
-- the numbers left are all small enough where the list's are. Assumes nothing.
use mathlib.Core.Path.{◌≡◌}
use Prim.Native.Nat.{◌+◌, ◌*◌, ◌≤◌}
use lib.ListN.{drop}
use Rattle.totals.specs.Totals.{largest_number, all_at_most, list_sum as sum_of}
use Rattle.totals.proofs.total.Given as goal

abbrev pub invariant-loop-n : goal.invariant-loop-n
invariant-loop-n l =
    (l.sum ≤ l.n-index * largest_number)
    × (l.sum + sum_of (drop l.n-index l.list) ≡ sum_of l.list)
    × (all_at_most largest_number (drop l.n-index l.list) ≡ all_at_most largest_number l.list)
