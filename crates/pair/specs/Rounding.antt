-- Document 01, "Pairs": each written operation works once and rounds once, the low end down to the nearest working number, the high
-- end up. An exact result is n / d × 10^e with n and d whole; `up` says the direction, and one definition serves both.
use Rattle.std.specs.Prelude.{ℕ, zero, suc, ◌+◌, ◌-◌, ◌*◌, ◌/◌, ◌%◌, ◌^◌, Bool, true, false, cond, ltb, ℤ, pos, ◌+ℤ◌, ◌-ℤ◌}
use Rattle.std.proofs.Math.IntN.{sub_ℕ}
use Rattle.pair.specs.declared.Number.{Number}
use Rattle.pair.specs.Number as N
use Rattle.pair.specs.Number.{lower, units_at}

-- what rounding adds to the whole part: 1 where it goes up and something is left
unfoldable pub extra : Bool → ℕ → ℕ
extra false r = 0
extra true zero = 0
extra true (suc r) = 1

-- n / d as a whole number, down or up
unfoldable pub divided : Bool → ℕ → ℕ → ℕ
divided up n d = n / d + extra up (n % d)

-- the least k, from one given, with n < d × 10^(9 + k); tries counts the k that may still be tried
unfoldable pub excess_from : ℕ → ℕ → ℕ → ℕ → ℕ
excess_from zero k n d = k
excess_from (suc tries) k n d = elim (ltb n (d * 10 ^ (9 + k))) [ true ↦ k | false ↦ excess_from tries (suc k) n d ]

-- how many figures the whole part of n / d has beyond nine
unfoldable pub excess : ℕ → ℕ → ℕ
excess n d = excess_from n 0 n d

-- m × 10^e with m of nine figures, or the carry to ten figures moved into the exponent
unfoldable pub carried : ℕ → ℤ → Number
carried m e =
    cond (ltb m 1000000000)
    (record { significand = m; exponent = e })
    (record { significand = 100000000; exponent = e +ℤ pos 1 })

-- n / d × 10^e with nine zeros put behind n, so that it has nine figures or more, then divided once by 10^k, k the figures beyond nine.
-- `Rounded` in Promises.antt says plainly what comes of it, and is promised of every call.
unfoldable pub rounded : Bool → ℕ → ℕ → ℤ → Number
rounded up zero d e = N.zero
rounded up (suc n) d e =
    let k : ℕ = excess (suc n * 1000000000) d in
    carried (divided up (suc n * 1000000000) (d * 10 ^ k)) (e +ℤ sub_ℕ k 9)

-- one end of a sum, a product, a quotient and 1 − f
unfoldable pub sum_end : Bool → Number → Number → Number
sum_end up a b = rounded up (units_at (lower a b) a + units_at (lower a b) b) 1 (lower a b)

unfoldable pub product_end : Bool → Number → Number → Number
product_end up a b = rounded up (a.significand * b.significand) 1 (a.exponent +ℤ b.exponent)

unfoldable pub quotient_end : Bool → Number → Number → Number
quotient_end up a b = rounded up a.significand b.significand (a.exponent -ℤ b.exponent)

unfoldable pub rest_end : Bool → Number → Number
rest_end up f =
    let s : ℤ = N.lesser f.exponent (pos 0) in
    rounded up (10 ^ N.rise s (pos 0) - units_at s f) 1 s

-- w with n units more in its last figure; ten figures are carried into the exponent, and from there on the unit is ten times larger
unfoldable pub lifted : ℕ → Number → Number
lifted n w =
    cond (ltb (w.significand + n) 1000000000)
    (record { significand = w.significand + n; exponent = w.exponent })
    (record { significand = w.significand + n - 900000000; exponent = w.exponent +ℤ pos 1 })

-- one end counted in units of 10^u
unfoldable pub units_end : Bool → Number → ℤ → ℕ
units_end up w u =
    let s : ℤ = N.lesser w.exponent u in
    divided up (units_at s w) (10 ^ N.rise s u)
