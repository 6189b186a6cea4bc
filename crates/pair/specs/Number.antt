-- Document 01, "Pairs": a working number is 0 or m × 10^e, m whole from 100,000,000 to 999,999,999, e signed, from −99,999 to 99,999.
-- A pair is a low and a high working number, low ≤ high. `Number` holds m and e, `Pair` the two ends; 0 is held as m = 0, e = 0.
use Rattle.std.specs.Prelude.{ℕ, ◌+◌, ◌-◌, ◌*◌, ◌^◌, suc, Bool, ◌&&◌, ◌||◌, cond, leb, eqb, ℤ, pos, negsuc, ◌-ℤ◌, nat_abs}
use Rattle.std.specs.Int.Signed.{le_z}
use Rattle.pair.specs.Fraction.{Fraction}
use Rattle.pair.specs.declared.Number.{Number}
use Rattle.pair.specs.declared.Pair.{Pair}

unfoldable pub nine_figures : ℕ → Bool
nine_figures m = leb 100000000 m && leb m 999999999

unfoldable pub in_reach : ℤ → Bool
in_reach e = le_z (negsuc 99998) e && le_z e (pos 99999)

unfoldable pub zero_exponent : ℤ → Bool
zero_exponent e = le_z (pos 0) e && le_z e (pos 0)

unfoldable pub is_zero : Number → Bool
is_zero w = eqb w.significand 0 && zero_exponent w.exponent

unfoldable pub is_number : Number → Bool
is_number w = is_zero w || (nine_figures w.significand && in_reach w.exponent)

unfoldable pub zero : Number
zero = record { significand = 0; exponent = pos 0 }

unfoldable pub one : Number
one = record { significand = 100000000; exponent = negsuc 7 }

-- m × 10^e as printed: its digits may be more or fewer than nine
abbrev pub as_printed : ℕ → ℤ → Number
as_printed m e = record { significand = m; exponent = e }

-- Alignment: the lesser of two exponents, how far one lies above it, and a number counted in units of ten to that power
unfoldable pub lesser : ℤ → ℤ → ℤ
lesser e f = cond (le_z e f) e f

unfoldable pub rise : ℤ → ℤ → ℕ
rise s e = nat_abs (e -ℤ s)

unfoldable pub units_at : ℤ → Number → ℕ
units_at s w = w.significand * 10 ^ rise s w.exponent

unfoldable pub lower : Number → Number → ℤ
lower a b = lesser a.exponent b.exponent

-- a ≤ b
unfoldable pub at_most : Number → Number → Bool
at_most a b = leb (units_at (lower a b) a) (units_at (lower a b) b)

unfoldable pub is_pair : Pair → Bool
is_pair p = is_number p.low && (is_number p.high && at_most p.low p.high)

-- The value m × 10^e as a fraction: m × 10^(e + depth) over 10^depth, with a depth below every exponent that can arise
unfoldable pub depth : ℕ
depth = 1000000

unfoldable pub place : ℤ → ℕ
place (pos n) = depth + n
place (negsuc n) = depth - suc n

unfoldable pub value : Number → Fraction
value w = record { num = w.significand * 10 ^ place w.exponent; den = 10 ^ depth }
