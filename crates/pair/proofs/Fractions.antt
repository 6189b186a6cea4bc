-- The order of exact fractions, by multiplying across: it is reflexive and transitive, the operations keep it, a quotient's divisor and
-- 1 − x turn it round. Assumes nothing.
use mathlib.Core.Path.{◌≡◌, refl, sym, ◌∙◌, ap, ap₂}
use Prim.Native.Nat.{ℕ, ◌-◌, ◌*◌, ◌<◌}
use native.Mathlib.Nat.{eq_of_mul-eq-mul_right, mul-le-mul, mul-le-mul_right, le_of_mul-le-mul_right, mul-pos, le_refl, mul-sub, mul_comm}
use native.Mathlib.Omega.{arith}
use Rattle.pair.specs.Fraction.{Fraction, Proper, ◌≤ᶠ◌, plus, times, over, rest, minus}
use Rattle.pair.specs.Promises.{Operation, sums, products, quotients, exact_result}

-- x < y
infix 30 ◌<ᶠ◌
pub record ◌<ᶠ◌ (x y : Fraction) : Type 0 where
  pub across : x.num * y.den < y.num * x.den

-- x = y
infix 30 ◌=ᶠ◌
pub record ◌=ᶠ◌ (x y : Fraction) : Type 0 where
  pub across : x.num * y.den ≡ y.num * x.den

-- x = x, y = x where x = y, and x = y and y = z give x = z
pub equal_itself : (x : Fraction) → x =ᶠ x
equal_itself x = record { across = refl }

pub equal_turned : {x y : Fraction} → x =ᶠ y → y =ᶠ x
equal_turned h = record { across = sym h.across }

pub equal_through : {x y z : Fraction} → Proper y → x =ᶠ y → y =ᶠ z → x =ᶠ z
equal_through {x} {y} {z} p h k =
    record {
      across =
          eq_of_mul-eq-mul_right y.den p.above_zero (x.num * z.den) (z.num * x.den)
          (omega (arith, ap (λ (n : ℕ). n * z.den) h.across, ap (λ (n : ℕ). n * x.den) k.across));
    }

-- sums and differences of equal fractions are equal
pub plus_equal : {x x' y y' : Fraction} → x =ᶠ x' → y =ᶠ y' → plus x y =ᶠ plus x' y'
unfolding plus
plus_equal {x} {x'} {y} {y'} h k =
    record {
      across =
          omega (arith, ap (λ (n : ℕ). n * (y.den * y'.den)) h.across, ap (λ (n : ℕ). n * (x.den * x'.den)) k.across);
    }

sub_times : (m n k : ℕ) → (m - n) * k ≡ m * k - n * k
sub_times m n k = mul_comm (m - n) k ∙ mul-sub k m n ∙ ap₂ ◌-◌ (mul_comm k m) (mul_comm k n)

pub minus_equal : {x x' y y' : Fraction} → x =ᶠ x' → y =ᶠ y' → minus x y =ᶠ minus x' y'
unfolding minus
minus_equal {x} {x'} {y} {y'} h k =
    record {
      across =
          sub_times (x.num * y.den) (y.num * x.den) (x'.den * y'.den)
          ∙ ap₂ ◌-◌ (omega (arith, ap (λ (n : ℕ). n * (y.den * y'.den)) h.across)) (omega (arith, ap (λ (n : ℕ). n * (x.den * x'.den)) k.across))
          ∙ sym (sub_times (x'.num * y'.den) (y'.num * x'.den) (x.den * y.den));
    }

-- x ≤ x
pub below_itself : (x : Fraction) → x ≤ᶠ x
below_itself x = record { across = le_refl (x.num * x.den) }

-- x = y gives x ≤ y
pub equal_below : {x y : Fraction} → x =ᶠ y → x ≤ᶠ y
equal_below h = record { across = omega (arith, h.across) }

-- x ≤ y and y ≤ z give x ≤ z
pub through : {x y z : Fraction} → Proper y → x ≤ᶠ y → y ≤ᶠ z → x ≤ᶠ z
through {x} {y} {z} p h k =
    record {
      across =
          le_of_mul-le-mul_right (omega (arith, mul-le-mul_right z.den h.across, mul-le-mul_right x.den k.across)) p.above_zero;
    }

-- y is at most y', or at least, where it divides
unfoldable pub Along : Operation → Fraction → Fraction → Type 0
Along sums y y' = y ≤ᶠ y'
Along products y y' = y ≤ᶠ y'
Along quotients y y' = y' ≤ᶠ y

-- each operation keeps the order
pub exactly_rises : (o : Operation) {x x' : Fraction} (y y' : Fraction) → x ≤ᶠ x' → Along o y y' → exact_result o x y ≤ᶠ exact_result o x' y'
unfolding exact_result plus times over Along
exactly_rises sums {x} {x'} y y' h k =
    record { across = omega (arith, mul-le-mul_right (y.den * y'.den) h.across, mul-le-mul_right (x.den * x'.den) k.across) }
exactly_rises products y y' h k = record { across = omega (arith, mul-le-mul h.across k.across) }
exactly_rises quotients y y' h k = record { across = omega (arith, mul-le-mul h.across k.across) }

-- where y may divide
unfoldable pub Usable : Operation → Fraction → Type 0
Usable sums y = Unit
Usable products y = Unit
Usable quotients y = 0 < y.num

pub exactly_proper : (o : Operation) {x y : Fraction} → Proper x → Proper y → Usable o y → Proper (exact_result o x y)
unfolding exact_result plus times over Usable
exactly_proper sums p q u = record { above_zero = mul-pos p.above_zero q.above_zero }
exactly_proper products p q u = record { above_zero = mul-pos p.above_zero q.above_zero }
exactly_proper quotients p q u = record { above_zero = mul-pos p.above_zero u }

-- 1 − x turns the order round
pub rest_falls_exactly : {x y : Fraction} → x ≤ᶠ y → rest y ≤ᶠ rest x
unfolding rest
rest_falls_exactly {x} {y} h =
    record {
      across =
          rw (mul_comm (y.den - y.num) x.den, mul_comm (x.den - x.num) y.den, mul-sub x.den y.den y.num, mul-sub y.den x.den x.num)
          (omega (arith, h.across));
    }
