-- Document 02, P4: a receptor's length of exposure and the years of deposition are compared, added and subtracted to the last printed
-- digit, and a result is rounded once, where it becomes a pair. A printed value has its last digit at 1E-27 or above, so a time is a whole
-- number of 1E-27 years. What is no time, or would be none, is refused with document 01's 53.
use Rattle.std.specs.Prelude.{ℕ, ◌+◌, ◌-◌, ◌*◌, ◌/◌, ◌%◌, ◌^◌, Bool, ◌&&◌, leb, ltb, ℤ, pos, negsuc, ◌-ℤ◌, nat_abs}
use Rattle.std.specs.Int.Signed.{le_z}
use Rattle.pair.specs.declared.Pair.{Pair}
use Rattle.pair.specs.Fraction.{Fraction}
use Rattle.pair.specs.Calls.{Outcome, is, provided, long_entry}
use Rattle.times.specs.declared.Years.{Years}

-- how many 1E-27 years a time is, and what so many are as a fraction of years
unfoldable pub amount : Years → ℕ
amount y = y.high * 10 ^ 18 + y.low

unfoldable pub years_of : ℕ → Fraction
years_of n = record { num = n; den = 10 ^ 27 }

unfoldable pub in_years : Years → Fraction
in_years y = years_of (amount y)

-- two words in their bounds, that is below 1E+10 years
unfoldable pub is_years : Years → Bool
is_years y = ltb y.high (10 ^ 19) && ltb y.low (10 ^ 18)

-- an amount as a time
unfoldable pub words_of : ℕ → Years
words_of n = record { high = n / 10 ^ 18; low = n % 10 ^ 18 }

unfoldable pub time_of : ℕ → Outcome Years
time_of n = provided (ltb n (10 ^ 37)) (is (words_of n))

-- 0 years
unfoldable pub none : Years
none = record { high = 0; low = 0 }

-- the least place of a last printed digit, 1E-27, and how far the last digit of m × 10^e stands above it
unfoldable pub least : ℤ
least = negsuc 26

unfoldable pub places : ℤ → ℕ
places e = nat_abs (e -ℤ least)

-- m × 10^e years as printed
unfoldable pub printed_amount : ℕ → ℤ → ℕ
printed_amount m e = m * 10 ^ places e

unfoldable pub printed : ℕ → ℤ → Outcome Years
printed m e = provided (le_z least e && le_z e (pos 9)) (time_of (printed_amount m e))

-- a + b
unfoldable pub together : Years → Years → Outcome Years
together a b = provided (is_years a && is_years b) (time_of (amount a + amount b))

-- whether a ≤ b
unfoldable pub at_most : Years → Years → Outcome Bool
at_most a b = provided (is_years a && is_years b) (is (leb (amount a) (amount b)))

-- a time as a pair
unfoldable pub as_pair : Years → Outcome Pair
as_pair y = long_entry y.high y.low least

-- a − b as a pair, for b at most a
unfoldable pub beyond : Years → Years → Outcome Pair
beyond a b = provided (is_years a && (is_years b && leb (amount b) (amount a))) (as_pair (words_of (amount a - amount b)))
