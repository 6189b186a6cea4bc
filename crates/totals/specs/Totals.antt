-- Totals (document 01, "Units and totals", and 52 of "Where a deck stops").
-- Assumes nothing.
use Rattle.std.specs.Prelude.{ℕ, ◌+◌, ◌^◌, Bool, true, cond, ◌&&◌, List, [], ◌∷◌, leb, length, Option, Some, None, Result, Ok, Err}
use Rattle.sizes.specs.Sizes.{most_lines}
use Rattle.pair.specs.Calls.{Outcome, is, refused}
use Rattle.pair.specs.declared.Units.{Units}
use Rattle.totals.specs.declared.NoTotal.{NoTotal}

-- two columns of a report line: - in both, or two counts
abbrev pub Columns : Type 0
Columns = Option Units

-- two columns added: a dash counts as nothing
infixl 60 ◌added◌
unfoldable pub ◌added◌ : Columns → Columns → Columns
None added y = y
Some n added None = Some n
Some n added Some m = Some (record { low = n.low + m.low; high = n.high + m.high })

-- ---- the totals call
-- each of the numbers is at most 1E+16
abbrev pub largest_number : ℕ
largest_number = 10 ^ 16

-- each case of an answer in these terms
unfoldable pub totalled : Result ℕ NoTotal → Outcome ℕ
totalled (Ok n) = is n
totalled (Err e) = refused 52

unfoldable pub list_sum : List ℕ → ℕ
list_sum [] = 0
list_sum (n ∷ ns) = n + list_sum ns

-- each number is at most this one
unfoldable pub all_at_most : ℕ → List ℕ → Bool
all_at_most most [] = true
all_at_most most (n ∷ ns) = leb n most && all_at_most most ns

-- the sum; 52 for more numbers than a receptor has lines, 96, or one above 1E+16
unfoldable pub total_of : List ℕ → Outcome ℕ
total_of list = cond (leb (length list) most_lines && all_at_most largest_number list) (is (list_sum list)) (refused 52)
