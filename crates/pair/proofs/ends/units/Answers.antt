-- Which of the two exponents is the lower decides whether the significand is divided or multiplied. Assumes nothing.
use mathlib.Core.Path.{◌≡◌, sym, subst}
use mathlib.Core.Bool.{Bool, true, false}
use Prim.Native.Nat.{ℕ, ◌≤◌, ◌<◌, ◌^◌}
use native.Mathlib.Nat.{mul-le-mul}
use native.Mathlib.Omega.{arith}
use lib.Dec.{ltb}
use lib.IntN.{ℤ}
use lib.Signed.{lt_z}
use mir.Facts.{to_z-of_z}
use borrow.Author.Tests.{ltb-true, ltb-false}
use Rattle.pair.specs.declared.Number.{Number}
use Rattle.pair.specs.Number.{place, rise, in_reach}
use Rattle.pair.specs.Rounding.{units_end}
use Rattle.pair.proofs.Alignment.{Small, nine_small, rise_of, less_place, not_less_place}
use Rattle.pair.proofs.Counts.{count_above, count_below, count_long}
use Rattle.pair.proofs.Exponents.{by_cases}
use Rattle.pair.proofs.Numbers.{Nine, number_nine, number_back, reach_mag}
use Rattle.pair.proofs.Powers.{ten_rises}
use Rattle.pair.proofs.ends.units.Goals as goal

unit_small : (u : ℤ) → in_reach u ≡ true → Small u
unit_small u h = record { small = omega (arith, reach_mag u h) }

-- a count of nineteen figures is at most ten places long
short : (up : Bool) (w : Number) (u : ℤ) (n : Nine w) (small : Small u) → ltb (units_end up w u) (10 ^ 19) ≡ true → place u ≤ place w.exponent →
    rise u w.exponent ≤ 10
short up w u n small t h =
    by_cases (ltb 10 (rise u w.exponent))
    (λ l.
    absurd
    (omega
    (arith, ltb-true (units_end up w u) (10 ^ 19) t, count_long up w u n small (omega (arith, ltb-true 10 (rise u w.exponent) l, rise_of small (nine_small n) h)))))
    (λ l. ltb-false 10 (rise u w.exponent) l)

pub returns-then-w-u : goal.returns-then-w-u
returns-then-w-u c =
    let a = c in
    let n : Nine a.args.w = number_nine a.args.w a.requires.w_value (omega arith) in
    let v : Small a.args.u = unit_small a.args.u a.requires.u_value in
    let t : lt_z a.args.w.exponent a.args.u ≡ true = rw (number_back a.args.w a.requires.w_value, to_z-of_z a.ranges.u) at c.if-w-u.true in
    let g : c.above.result ≡ rise a.args.w.exponent a.args.u = rw (number_back a.args.w a.requires.w_value, to_z-of_z a.ranges.u) at c.above.ensures in
    let l : place a.args.w.exponent < place a.args.u = less_place (nine_small n) v t in
    rw (c.lowered.ensures, g) (count_above a.args.up a.args.w a.args.u n v (omega arith))

pub power-requires : goal.power-requires
power-requires c =
    let a = c in
    let n : Nine a.args.w = number_nine a.args.w a.requires.w_value (omega arith) in
    let v : Small a.args.u = unit_small a.args.u a.requires.u_value in
    let t : lt_z a.args.w.exponent a.args.u ≡ false = rw (number_back a.args.w a.requires.w_value, to_z-of_z a.ranges.u) at c.if-w-u.false in
    let g : c.above-2.result ≡ rise a.args.u a.args.w.exponent = rw (number_back a.args.w a.requires.w_value, to_z-of_z a.ranges.u) at c.above-2.ensures in
    let l : place a.args.u ≤ place a.args.w.exponent = not_less_place (nine_small n) v t in
    let s : rise a.args.u a.args.w.exponent ≤ 10 = short a.args.up a.args.w a.args.u n v a.requires.u_value_2 l in
    omega arith

pub overflow_mul-result : goal.overflow_mul-result
overflow_mul-result c =
    let a = c in
    let n : Nine a.args.w = number_nine a.args.w a.requires.w_value (omega arith) in
    let v : Small a.args.u = unit_small a.args.u a.requires.u_value in
    let t : lt_z a.args.w.exponent a.args.u ≡ false = rw (number_back a.args.w a.requires.w_value, to_z-of_z a.ranges.u) at c.if-w-u.false in
    let g : c.above-2.result ≡ rise a.args.u a.args.w.exponent = rw (number_back a.args.w a.requires.w_value, to_z-of_z a.ranges.u) at c.above-2.ensures in
    let l : place a.args.u ≤ place a.args.w.exponent = not_less_place (nine_small n) v t in
    let s : rise a.args.u a.args.w.exponent ≤ 10 = short a.args.up a.args.w a.args.u n v a.requires.u_value_2 l in
    let q : c.power.result ≤ 10 ^ 10 = subst (λ (x : ℕ). x ≤ 10 ^ 10) (sym c.power.ensures) (ten_rises {j = 10} (omega arith)) in
    omega (arith, mul-le-mul n.most q)

pub returns : goal.returns
returns c =
    let a = c in
    let n : Nine a.args.w = number_nine a.args.w a.requires.w_value (omega arith) in
    let v : Small a.args.u = unit_small a.args.u a.requires.u_value in
    let t : lt_z a.args.w.exponent a.args.u ≡ false = rw (number_back a.args.w a.requires.w_value, to_z-of_z a.ranges.u) at c.if-w-u.false in
    let g : c.above-2.result ≡ rise a.args.u a.args.w.exponent = rw (number_back a.args.w a.requires.w_value, to_z-of_z a.ranges.u) at c.above-2.ensures in
    let l : place a.args.u ≤ place a.args.w.exponent = not_less_place (nine_small n) v t in
    let s : rise a.args.u a.args.w.exponent ≤ 10 = short a.args.up a.args.w a.args.u n v a.requires.u_value_2 l in
    rw (c.power.ensures, g) (count_below a.args.up a.args.w a.args.u n v l)
