-- Totals: columns that enclose their exact fractions are added to a total that encloses the exact sum. Assumes nothing.
use mathlib.Core.Path.{◌≡◌, refl}
use Prim.Native.Nat.{ℕ, zero, suc, ◌+◌, ◌*◌, ◌≤◌, ◌<◌}
use native.Mathlib.Nat.{mul-le-mul_right, mul-pos}
use native.Mathlib.Omega.{arith}
use lib.Dec.{lit<}
use Rattle.pair.specs.Fraction.{Fraction, plus}
use Rattle.std.specs.Prelude.{Some, None}
use Rattle.totals.specs.Totals.{Columns, ◌added◌}
use Rattle.sheet.specs.Sheet.{added_over}
use Rattle.sheet.specs.DemandThree.{nothing, sum_over, count_over, Enclosed, TotalHolds}

-- no line, and so 0
pub record NoLines (n : ℕ) (x : Fraction) : Type 0 where
  pub none : n ≡ 0
  pub zero : x.num ≡ 0
  pub proper : 0 < x.den

-- a total of n lines, whose exact sum is x
unfoldable pub Totals : Columns → ℕ → Fraction → Type 0
Totals None n x = NoLines n x
Totals (Some counts) n x = Enclosed counts.low counts.high n x

pub totals_hold : (u : Columns) (n : ℕ) (x : Fraction) → Totals u n x → TotalHolds u n x
unfolding Totals TotalHolds
totals_hold None n x h = h.none
totals_hold (Some counts) n x h = h

-- sums by multiplying across
sum_least : (l k a b c d : ℕ) → l * b ≤ a → k * d ≤ c → (l + k) * (b * d) ≤ a * d + c * b
sum_least l k a b c d p q = omega (arith, mul-le-mul_right d p, mul-le-mul_right b q)

sum_most : (l k a b c d : ℕ) → a ≤ l * b → c ≤ k * d → a * d + c * b ≤ (l + k) * (b * d)
sum_most l k a b c d p q = omega (arith, mul-le-mul_right d p, mul-le-mul_right b q)

-- two totals added
pub totals_added : (u v : Columns) (m n : ℕ) (x y : Fraction) → Totals u m x → Totals v n y → Totals (u added v) (m + n) (plus x y)
unfolding Totals ◌added◌ plus
totals_added None None m n x y h k =
    record { none = omega arith; zero = rw (h.zero, k.zero) (omega arith); proper = mul-pos h.proper k.proper }
totals_added None (Some v) m n x y h k =
    record {
      some = omega arith;
      proper = mul-pos h.proper k.proper;
      least = omega (arith, sum_least 0 v.low x.num x.den y.num y.den (omega arith) k.least);
      most = omega (arith, sum_most 0 v.high x.num x.den y.num y.den (omega (arith, h.zero)) k.most);
      close = omega (arith, h.none, k.close);
    }
totals_added (Some u) None m n x y h k =
    record {
      some = omega arith;
      proper = mul-pos h.proper k.proper;
      least = omega (arith, sum_least u.low 0 x.num x.den y.num y.den h.least (omega arith));
      most = omega (arith, sum_most u.high 0 x.num x.den y.num y.den h.most (omega (arith, k.zero)));
      close = omega (arith, k.none, h.close);
    }
totals_added (Some u) (Some v) m n x y h k =
    record {
      some = omega arith;
      proper = mul-pos h.proper k.proper;
      least = sum_least u.low v.low x.num x.den y.num y.den h.least k.least;
      most = sum_most u.high v.high x.num x.den y.num y.den h.most k.most;
      close = omega (arith, h.close, k.close);
    }

pub totals_none : Totals None 0 nothing
unfolding Totals nothing
totals_none = record { none = refl; zero = refl; proper = lit< tt }

-- f 0 added f 1 .. added f (n − 1)
pub totals_over : (f : ℕ → Columns) (c : ℕ → ℕ) (x : ℕ → Fraction) (n : ℕ) → ((k : ℕ) → k < n → Totals (f k) (c k) (x k)) → Totals (added_over f n) (count_over c n) (sum_over x n)
unfolding added_over count_over sum_over
totals_over f c x zero h = totals_none
totals_over f c x (suc n) h =
    totals_added (added_over f n) (f n) (count_over c n) (c n) (sum_over x n) (x n) (totals_over f c x n (λ k l. h k (omega arith))) (h n (omega arith))
