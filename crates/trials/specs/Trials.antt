-- The parts of a trial, and the tally.
use Rattle.std.specs.Prelude.{◌≡◌, ℕ, zero, suc, ◌+◌, ◌%◌, ◌^◌, ◌≤◌, Bool, true, cond, not, List, [], ◌∷◌, ◌++◌, length, take, drop, nat_le, Option, Some, None, ⊤}
use Rattle.std.specs.Io.KnownBytes.{Consumes}
use Rattle.trials.specs.Text.{leading, whole_of}
use Rattle.trials.specs.declared.counting.Tally.{Tally}
use Rattle.trials.specs.declared.text.Part.{Part}

-- the digits behind the spaces of some columns
abbrev pub behind_spaces : List ℕ → Option (Part ℕ)
behind_spaces s = whole_of s (leading 32 32 s)

abbrev pub value_of : Option (Part ℕ) → Option ℕ
value_of None = None
value_of (Some w) = Some w.value

-- the number of the six columns from a place on
unfoldable pub column_of : List ℕ → ℕ → Option ℕ
column_of s from = cond (nat_le (from + 6) (length s)) (value_of (behind_spaces (take 6 (drop from s)))) None

-- a number before others, where all are numbers
abbrev pub before : Option ℕ → Option (List ℕ) → Option (List ℕ)
before None ns = None
before (Some n) None = None
before (Some n) (Some ns) = Some (n ∷ ns)

-- the five numbers of a head
unfoldable pub head_of : List ℕ → Option (List ℕ)
head_of s = before (column_of s 0) (before (column_of s 6) (before (column_of s 12) (before (column_of s 18) (before (column_of s 24) (Some [])))))

-- what a buffer holds before a call: byte i is 1 + i mod 251
unfoldable pub filled : ℕ → List ℕ
filled zero = []
filled (suc n) = filled n ++ ((n % 251 + 1) ∷ [])

-- one more, as 64 bits hold it
abbrev pub more_if : Bool → ℕ → ℕ
more_if b n = cond b ((n + 1) % 2 ^ 64) n

abbrev pub no_tally : Tally
no_tally = record { run = 0; refused = 0; failed = 0 }

abbrev pub tallied : Tally → Bool → Bool → Tally
tallied t refused agrees = record { run = more_if true t.run; refused = more_if refused t.refused; failed = more_if (not agrees) t.failed }

-- how many bytes stand at the start of a buffer: no more than it has
abbrev pub IsPrefixLen : ℕ → List ℕ → Type 0
IsPrefixLen n xs = (n ≤ length xs) × (n ≡ length (take n xs))

-- a head is that of the next 31 bytes of the input, which are read
abbrev pub IsNextHead : Option (List ℕ) → Option (List ℕ) → Option (List ℕ) → Type 0
IsNextHead old new None = ⊤
IsNextHead old new (Some head) = (line : List ℕ) × (length line ≡ 31) × Consumes old new line × (head_of line ≡ Some head)
