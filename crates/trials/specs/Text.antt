-- Numbers as they are written in a text.
use Rattle.std.specs.Prelude.{ℕ, ◌+◌, ◌-◌, ◌*◌, ◌^◌, Bool, true, false, cond, ◌&&◌, List, [], ◌∷◌, length, take, drop, ℤ, pos, ◌-ℤ◌, ◌==◌, nat_le, nat_lt, slice_index, Option, Some, None}
use Rattle.std.specs.List.{prefix_len}
use Rattle.trials.specs.declared.text.Part.{Part}

-- with how many bytes from low to high a text begins
abbrev pub leading : ℕ → ℕ → List ℕ → ℕ
leading low high s = prefix_len (λ b. nat_le low b && nat_le b high) s

-- the number that digits spell behind a number
unfoldable pub spelled : List ℕ → ℕ → ℕ
spelled [] n = n
spelled (b ∷ s) n = spelled s (n * 10 + (b - 48))

-- the number that digits spell, where 64 bits hold it; the text goes on at a place
unfoldable pub number_of : List ℕ → ℕ → Option (Part ℕ)
number_of s at = cond (nat_lt (spelled s 0) (2 ^ 64)) (Some (record { value = spelled s 0; at = at })) None

-- how many digits stand from a place on
abbrev pub digits_at : List ℕ → ℕ → ℕ
digits_at s at = leading 48 57 (drop at s)

-- the digits from a place on, at least one
unfoldable pub whole_of : List ℕ → ℕ → Option (Part ℕ)
whole_of s at = cond (nat_lt 0 (digits_at s at)) (number_of (take (digits_at s at) (drop at s)) (at + digits_at s at)) None

-- the place after a byte that stands at a place
unfoldable pub after_of : ℕ → List ℕ → ℕ → Option ℕ
after_of b s at = cond (nat_lt at (length s) && slice_index s at == b) (Some (at + 1)) None

-- what a reading from a place on reads, where there is such a place
abbrev pub from : {A : Type 0} → Option ℕ → (ℕ → Option A) → Option A
from None read = None
from (Some at) read = read at

-- a space and digits
unfoldable pub spaced_whole : List ℕ → ℕ → Option (Part ℕ)
spaced_whole s at = from (after_of 32 s at) (whole_of s)

-- a number or its opposite, where 32 bits hold it
unfoldable pub signed_of : Bool → Part ℕ → Option (Part ℤ)
signed_of true w = cond (nat_le w.value 2147483648) (Some (record { value = pos 0 -ℤ pos w.value; at = w.at })) None
signed_of false w = cond (nat_le w.value 2147483647) (Some (record { value = pos w.value; at = w.at })) None

-- that of the digits that were read
abbrev pub signed_digits : Bool → Option (Part ℕ) → Option (Part ℤ)
signed_digits minus None = None
signed_digits minus (Some w) = signed_of minus w

-- perhaps a minus, and digits
abbrev pub signed_behind : List ℕ → ℕ → Option ℕ → Option (Part ℤ)
signed_behind s at (Some behind) = signed_digits true (whole_of s behind)
signed_behind s at None = signed_digits false (whole_of s at)

unfoldable pub signed_at : List ℕ → ℕ → Option (Part ℤ)
signed_at s at = signed_behind s at (after_of 45 s at)

-- a space, perhaps a minus, and digits
unfoldable pub spaced_signed : List ℕ → ℕ → Option (Part ℤ)
spaced_signed s at = from (after_of 32 s at) (signed_at s)
