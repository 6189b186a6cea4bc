-- How wide an answer is for given operands, in parts in 10^8: rounding once costs one part, so an answer two; products and quotients add
-- the parts of their operands, and a sum takes the greater. Assumes nothing.
use mathlib.Core.Path.{◌≡◌, sym, subst}
use mathlib.Core.Bool.{true, false}
use Prim.Native.Nat.{ℕ, ◌+◌, ◌*◌, ◌^◌, ◌≤◌, ◌<◌, max}
use native.Mathlib.Nat.{mul-le-mul, mul-le-mul_right, le_of_mul-le-mul_right, lt_of_mul-lt-mul_right, mul-pos, one-le-pow, pow-le-pow_left, le_dest, le-max_left, le-max_right}
use native.Mathlib.Omega.{arith}
use lib.Dec.{lit<, lit≤}
use lib.Pow.{pow-add}
use Rattle.pair.specs.declared.Number.{Number}
use Rattle.pair.specs.declared.Pair.{Pair}
use Rattle.pair.specs.Fraction.{Fraction, Proper, ◌≤ᶠ◌, plus, times, over}
use Rattle.pair.specs.Number.{value}
use Rattle.pair.specs.Calls.{is}
use Rattle.pair.specs.Promises.{Operation, sums, products, quotients, call, exact_result, low_end, high_end, with_low, with_high, Rounded, Close, grown, Near, spread, NearAlong}
use Rattle.pair.proofs.Promises.{below_itself, rounds, ends_proper}

pub near_from : {x y : Fraction} → x ≤ᶠ y → Near 0 x y
near_from h = record { across = mul-le-mul_right 1 h.across }

pub near_through : {v w : ℕ} {x y z : Fraction} → Proper y → Near v x y → Near w y z → Near (v + w) x z
near_through {v} {w} {x} {y} {z} p h k =
    record {
      across =
          rw (pow-add 100000000 v w, pow-add 100000001 v w)
          (le_of_mul-le-mul_right
          (omega (arith, mul-le-mul_right (z.den * 100000000 ^ w) h.across, mul-le-mul_right (x.den * 100000001 ^ v) k.across)) p.above_zero);
    }

pub near_more : {v w : ℕ} {x y : Fraction} → v ≤ w → Near v x y → Near w x y
near_more {v} {w} {x} {y} l h = go (le_dest l)
  where
    go : (k : ℕ) × (v + k ≡ w) → Near w x y
    go (k, e) =
        record {
          across =
              rw (← e, pow-add 100000000 v k, pow-add 100000001 v k)
              (omega (arith, mul-le-mul h.across (pow-le-pow_left {n = 100000000} {m = 100000001} (lit≤ tt) k)));
        }

-- A fraction to which one above 0 is near is above 0.
pub near_above : {w : ℕ} {x y : Fraction} → Proper y → Near w x y → 0 < x.num → 0 < y.num
near_above {w} {x} {y} p h l =
    lt_of_mul-lt-mul_right (x.den * 100000001 ^ w) {m = 0}
    (omega (arith, h.across, mul-pos (mul-pos l p.above_zero) (one-le-pow w 100000000 (lit< tt))))

-- Rounding once costs one part.
pub near_down : {x : Fraction} {w : Number} → Rounded false x w → Near 1 x (value w)
unfolding Close grown
near_down r = record { across = omega (arith, r.close.across) }

pub near_up : {x : Fraction} {w : Number} → Rounded true x w → Near 1 (value w) x
unfolding Close grown
near_up r = record { across = omega (arith, r.close.across) }

-- The exact ends spread as `spread` says.
pub near_exactly : (o : Operation) (v w : ℕ) {x x' : Fraction} (y y' : Fraction) → Near v x x' → NearAlong o w y y' → Near (spread o v w) (exact_result o x y) (exact_result o x' y')
unfolding spread NearAlong exact_result plus times over
near_exactly sums v w {x} {x'} y y' h k =
    let a : Near (max v w) x x' = near_more (le-max_left v w) h in
    let b : Near (max v w) y y' = near_more (le-max_right v w) k in
    record { across = omega (arith, mul-le-mul_right (y.den * y'.den) a.across, mul-le-mul_right (x.den * x'.den) b.across) }
near_exactly products v w y y' h k =
    record { across = rw (pow-add 100000000 v w, pow-add 100000001 v w) (omega (arith, mul-le-mul h.across k.across)) }
near_exactly quotients v w y y' h k =
    record { across = rw (pow-add 100000000 v w, pow-add 100000001 v w) (omega (arith, mul-le-mul h.across k.across)) }

-- The ends that an operation takes of a pair lie as near as the pair's own.
near_ends : (o : Operation) (w : ℕ) (q : Pair) → Near w (value q.high) (value q.low) → NearAlong o w (value (with_high o q)) (value (with_low o q))
unfolding with_low with_high NearAlong
near_ends sums w q h = h
near_ends products w q h = h
near_ends quotients w q h = h

-- Rounding both ends costs two parts.
pub two_more : {w : ℕ} {x y u v : Fraction} → Proper x → Proper y → Near 1 u x → Near w x y → Near 1 y v → Near (w + 2) u v
two_more {w} {u} {v} p q a b c = rw (ends w) at (near_through p a (near_through q b c))
  where
    ends : (n : ℕ) → 1 + (n + 1) ≡ n + 2
    ends n = omega arith

-- The width of an answer.
pub width : (o : Operation) (v w : ℕ) (p q r : Pair) → call o p q ≡ is r → Near v (value p.high) (value p.low) → Near w (value q.high) (value q.low) →
    Near (spread o v w + 2) (value r.high) (value r.low)
unfolding low_end high_end
width o v w p q r h a b =
    let d = rounds o p q r h in
    let m = ends_proper o p q r h in
    two_more m.1 m.0 (near_up d.1) (near_exactly o v w (value (with_high o q)) (value (with_low o q)) a (near_ends o w q b)) (near_down d.0)

-- Equal ends are 0 wide.
pub equal_ends : (p : Pair) → p.low ≡ p.high → Near 0 (value p.high) (value p.low)
equal_ends p e = subst (λ (w : Number). Near 0 (value p.high) (value w)) (sym e) (near_from (below_itself (value p.high)))
