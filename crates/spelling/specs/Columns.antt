-- Digits in columns, as a deck and a report have them: right-justified after spaces.
-- Bytes: 32 is a space, 45 -, 48 to 57 the digits.
-- Assumes nothing.
use Rattle.std.specs.Prelude.{ℕ, suc, ◌+◌, ◌*◌, ◌-◌, ◌/◌, zero, ◌%◌, Bool, cond, ◌&&◌, List, [], ◌∷◌, ◌++◌, leb, eqb, length, replicate}

-- columns of a field, and of an id
abbrev pub field_width : ℕ
field_width = 12

abbrev pub id_width : ℕ
id_width = 6

-- the byte b lies from lo to hi
unfoldable pub within : ℕ → ℕ → ℕ → Bool
within lo hi b = leb lo b && leb b hi

-- how many bytes at the front lie from lo to hi
unfoldable pub leading : ℕ → ℕ → List ℕ → ℕ
leading lo hi [] = 0
leading lo hi (b ∷ bs) = cond (within lo hi b) (suc (leading lo hi bs)) 0

-- the number that digits spell after n
unfoldable pub digits_value : ℕ → List ℕ → ℕ
digits_value n [] = n
digits_value n (d ∷ ds) = digits_value (n * 10 + (d - 48)) ds

-- the last digit of n, as a byte
abbrev pub digit : ℕ → ℕ
digit n = 48 + n % 10

-- the digits of n without leading zeros, at most k of them; none of 0
unfoldable pub digits : ℕ → ℕ → List ℕ
digits zero n = []
digits (suc k) n = cond (eqb n 0) [] (digits k (n / 10) ++ (digit n ∷ []))

-- n in decimal, at most w digits: the last digit, so that 0 is "0", after those before it
unfoldable pub decimal : ℕ → ℕ → List ℕ
decimal w n = digits (w - 1) (n / 10) ++ (digit n ∷ [])

-- a text after spaces, in w columns
unfoldable pub justified : ℕ → List ℕ → List ℕ
justified w text = replicate (w - length text) 32 ++ text

unfoldable pub number : ℕ → ℕ → List ℕ
number w n = justified w (decimal w n)

-- what stands for an absent value
abbrev pub dash : List ℕ
dash = 45 ∷ []

-- ---- in all columns of a part; a part of no columns stays
unfoldable pub in_columns : List ℕ → List ℕ → List ℕ
in_columns part text = cond (eqb (length part) 0) part (justified (length part) text)

unfoldable pub number_in : List ℕ → ℕ → List ℕ
number_in part n = in_columns part (decimal (length part) n)

unfoldable pub dash_in : List ℕ → List ℕ
dash_in part = in_columns part dash
