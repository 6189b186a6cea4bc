-- Exact fractions: what a pair is set against. A fraction is a whole numerator over a whole denominator, and two are compared by
-- multiplying across. The denominator stands above 0 wherever a promise speaks of a fraction (`Proper`).
use Rattle.std.specs.Prelude.{ℕ, ◌+◌, ◌-◌, ◌*◌, ◌≤◌, ◌<◌}

pub record Fraction : Type 0 where
  pub num : ℕ
  pub den : ℕ

pub record Proper (x : Fraction) : Type 0 where
  pub above_zero : 0 < x.den

infix 30 ◌≤ᶠ◌
pub record ◌≤ᶠ◌ (x y : Fraction) : Type 0 where
  pub across : x.num * y.den ≤ y.num * x.den

-- x + y
unfoldable pub plus : Fraction → Fraction → Fraction
plus x y = record { num = x.num * y.den + y.num * x.den; den = x.den * y.den }

-- x × y
unfoldable pub times : Fraction → Fraction → Fraction
times x y = record { num = x.num * y.num; den = x.den * y.den }

-- x / y
unfoldable pub over : Fraction → Fraction → Fraction
over x y = record { num = x.num * y.den; den = x.den * y.num }

-- 1 − x, for x at most 1
unfoldable pub rest : Fraction → Fraction
rest x = record { num = x.den - x.num; den = x.den }

-- x − y, for y at most x
unfoldable pub minus : Fraction → Fraction → Fraction
minus x y = record { num = x.num * y.den - y.num * x.den; den = x.den * y.den }
