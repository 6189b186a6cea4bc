-- The terms of the promises that the crates above may count on; `proofs/Promises.antt` states and proves them.
use Rattle.std.specs.Prelude.{◌≡◌, Bool, true, false, ◌⊎◌, ℕ, ◌+◌, ◌*◌, ◌^◌, ◌≤◌, max, ℤ}
use Rattle.pair.specs.declared.Number.{Number}
use Rattle.pair.specs.declared.Pair.{Pair}
use Rattle.pair.specs.declared.Step.{Step}
use Rattle.pair.specs.declared.Step.TheVariants as Steps
use Rattle.pair.specs.Fraction as exact
use Rattle.pair.specs.Fraction.{Fraction, Proper, ◌≤ᶠ◌}
use Rattle.pair.specs.Number.{is_number, value, place, depth, zero}
use Rattle.pair.specs.Calls as calls
use Rattle.pair.specs.Calls.{Outcome, is}

-- p holds x: the exact fraction lies between the ends
pub record Holds (p : Pair) (x : Fraction) : Type 0 where
  pub proper : Proper x
  pub low : value p.low ≤ᶠ x
  pub high : x ≤ᶠ value p.high

-- w lies on the side of x to which rounding goes: not above it, or not below it
unfoldable pub Beside : Bool → Fraction → Fraction → Type 0
Beside false w x = w ≤ᶠ x
Beside true w x = x ≤ᶠ w

-- x and one part in 10^8 of it more
unfoldable pub grown : Fraction → Fraction
grown x = record { num = x.num * 100000001; den = x.den * 100000000 }

-- w and x differ by at most one part in 10^8
unfoldable pub Close : Bool → Fraction → Fraction → Type 0
Close false w x = x ≤ᶠ grown w
Close true w x = w ≤ᶠ grown x

-- w is x rounded once: a working number on its side of x, none of them nearer, close, and 0 exactly where x is
pub record Rounded (up : Bool) (x : Fraction) (w : Number) : Type 0 where
  pub working : is_number w ≡ true
  pub side : Beside up (value w) x
  pub nearest : (v : Number) → is_number v ≡ true → Beside up (value v) x → Beside up (value v) (value w)
  pub close : Close up (value w) x
  pub zero_from : x.num ≡ 0 → w ≡ zero
  pub zero_only : w ≡ zero → x.num ≡ 0

-- p is the pair around x: its ends are x rounded down and up, and one part in 10^8 apart at most
pub record Around (x : Fraction) (p : Pair) : Type 0 where
  pub low : Rounded false x p.low
  pub high : Rounded true x p.high
  pub narrow : value p.high ≤ᶠ grown (value p.low)

-- 0, or from 10^−k to 10^k
pub record Sized (k : ℕ) (x : Fraction) : Type 0 where
  pub sized : (x.num ≡ 0) ⊎ ((x.den ≤ x.num * 10 ^ k) × (x.num ≤ x.den * 10 ^ k))

-- each end of p is at most the same end of q
infix 30 ◌≤ₑ◌
pub record ◌≤ₑ◌ (p q : Pair) : Type 0 where
  pub low : value p.low ≤ᶠ value q.low
  pub high : value p.high ≤ᶠ value q.high

-- The same of what calls told, wherever they are answered: it holds x, and each end of one is at most the same end of the other
abbrev pub Held : Outcome Pair → Fraction → Type 0
Held u x = (p : Pair) → u ≡ is p → Holds p x

infix 30 ◌≤ₒ◌
abbrev pub ◌≤ₒ◌ : Outcome Pair → Outcome Pair → Type 0
u ≤ₒ v = (p q : Pair) → u ≡ is p → v ≡ is q → ◌≤ₑ◌ p q

-- The three operations on two pairs, so that each promise is stated once
pub data Operation : Type 0 where
  sums products quotients : Operation

-- on pairs, by the working rule
unfoldable pub call : Operation → Pair → Pair → Outcome Pair
call sums p q = calls.sum p q
call products p q = calls.product p q
call quotients p q = calls.quotient p q

-- on exact fractions
unfoldable pub exact_result : Operation → Fraction → Fraction → Fraction
exact_result sums x y = exact.plus x y
exact_result products x y = exact.times x y
exact_result quotients x y = exact.over x y

-- a step of a chain is one of them
unfoldable pub operation_of : Step → Operation
operation_of Steps.Times = products
operation_of Steps.Over = quotients

unfoldable pub exact_step : Step → Fraction → Fraction → Fraction
exact_step s x y = exact_result (operation_of s) x y

-- the end of the second operand that the low and the high end of the result take: a quotient's takes the other
unfoldable pub with_low : Operation → Pair → Number
with_low sums q = q.low
with_low products q = q.low
with_low quotients q = q.high

unfoldable pub with_high : Operation → Pair → Number
with_high sums q = q.high
with_high products q = q.high
with_high quotients q = q.low

-- the exact ends, which are then rounded
unfoldable pub low_end : Operation → Pair → Pair → Fraction
low_end o p q = exact_result o (value p.low) (value (with_low o q))

unfoldable pub high_end : Operation → Pair → Pair → Fraction
high_end o p q = exact_result o (value p.high) (value (with_high o q))

-- m × 10^e as a fraction
unfoldable pub scaled : ℕ → ℤ → Fraction
scaled m e = record { num = m * 10 ^ place e; den = 10 ^ depth }

-- n units of a number's last figure
unfoldable pub units_of : ℕ → Number → Fraction
units_of n w = scaled n w.exponent

-- How wide: x is at most y with w parts in 10^8 more, one upon the other. A pair is w wide where its high end lies so near its low end.
pub record Near (w : ℕ) (x y : Fraction) : Type 0 where
  pub across : x.num * y.den * 100000000 ^ w ≤ y.num * x.den * 100000001 ^ w

-- the parts that an operation makes of its operands' parts, before both ends are rounded
unfoldable pub spread : Operation → ℕ → ℕ → ℕ
spread sums v w = max v w
spread products v w = v + w
spread quotients v w = v + w

-- near in the direction in which an operation takes its second operand
unfoldable pub NearAlong : Operation → ℕ → Fraction → Fraction → Type 0
NearAlong sums w y y' = Near w y y'
NearAlong products w y y' = Near w y y'
NearAlong quotients w y y' = Near w y' y
