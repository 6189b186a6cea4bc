-- What a call leaves behind: the number that it returns, and what then stands in the memory that was lent for its result.
use Rattle.std.specs.Prelude.{ℕ, Bool, true, false, List, ℤ}
use Rattle.pair.specs.declared.Pair.{Pair}
use Rattle.pair.specs.declared.Units.{Units}
use Rattle.pair.specs.Calls.{Outcome, is, refused, after, after_one, in_units}
use Rattle.slots.specs.declared.Sort.{Sort}
use Rattle.cases.specs.declared.Told.{Told}
use Rattle.deck.specs.DeckCase.{read_of}
use Rattle.cases.specs.Conditions.{status_of, told_of}
use Rattle.zilmorga.specs.Numbers.{entry_at, and_then, number_of, pair_from, compared_if, numbers_of}

pub record Left (A : Type 0) : Type 0 where
  pub number : ℕ
  pub out : A

abbrev pub left : {A : Type 0} → ℕ → A → Left A
left number out = record { number = number; out = out }

-- 0 and the result; or the number of the refusal, and the memory as it was
unfoldable pub leaves : {A B : Type 0} → (A → B) → Outcome A → B → Left B
leaves spelled (is x) before = left 0 (spelled x)
leaves spelled (refused n) before = left n before

-- number, line and field
abbrev pub told : ℕ → ℕ → ℕ → Told
told number line field = record { number = number; line = line; field = field }

-- a deck of this sort that is read and no more
unfoldable pub read_told : Sort → List ℕ → Told
read_told sort deck = told_of (status_of (read_of sort deck))

-- an operation on pairs that the caller wrote
unfoldable pub on_one_pair : (Pair → Outcome Pair) → List ℤ → List ℤ → Left (List ℤ)
on_one_pair f a before = leaves numbers_of (after_one f (pair_from a)) before

unfoldable pub on_two_pairs : (Pair → Pair → Outcome Pair) → List ℤ → List ℤ → List ℤ → Left (List ℤ)
on_two_pairs f a b before = leaves numbers_of (after f (pair_from a) (pair_from b)) before

-- 1 where the first is at most the second, else 0
unfoldable pub as_number : Bool → ℕ
as_number true = 1
as_number false = 0

unfoldable pub comparison : List ℤ → List ℤ → ℕ → Left ℕ
comparison a b before = leaves as_number (compared_if (number_of (entry_at a 0) (entry_at a 1)) (number_of (entry_at b 0) (entry_at b 1))) before

abbrev pub units : ℕ → ℕ → Units
units low high = record { low = low; high = high }

unfoldable pub units_left : List ℤ → ℤ → Units → Left Units
units_left p unit before = leaves (λ n. n) (and_then (pair_from p) (λ q. in_units q unit)) before
