-- A pair whose high end is at most 1, and so is its low end. Assumes nothing.
use mathlib.Core.Path.{◌≡◌, refl}
use mathlib.Core.Bool.{true}
use Prim.Native.Nat.{◌≤◌}
use native.Mathlib.Omega.{arith}
use Rattle.pair.specs.declared.Pair.{Pair}
use Rattle.pair.specs.Number.{nine_figures, in_reach, is_zero, is_number, is_pair, at_most, one}
use Rattle.pair.proofs.Numbers.{pair_low, pair_high, pair_order, number_mag, number_reach, number_back}
use Rattle.pair.proofs.Providing.{passed}
use Rattle.pair.proofs.Alignment.{Small, order_trans}
use Rattle.pair.proofs.Ordered.{working}
use Rattle.pair.specs.declared.Number.{Number}
use lib.Dec.{lit<}
use Rattle.pair.proofs.Pair.one_minus.Goals as goal

small : (w : Number) → is_number w ≡ true → Small w.exponent
small w h = record { small = omega (arith, number_mag w h) }

one_small : Small one.exponent
unfolding one
one_small = record { small = lit< tt }

one_number : is_number one ≡ true
unfolding one is_number is_zero nine_figures in_reach
one_number = refl

low_below : (f : Pair) → is_pair f ≡ true → at_most f.high one ≡ true → at_most f.low one ≡ true
low_below f h k =
    order_trans f.low f.high one (small f.low (pair_low f h)) (small f.high (pair_high f h)) one_small (pair_order f h) k

-- a working number has nine digits at most, and so twelve
few : (w : Number) → is_number w ≡ true → w.significand ≤ 999999999999
few w h = omega (arith, (working w h).most)

pub at_most-requires : goal.at_most-requires
unfolding one
at_most-requires c =
    let f = c.args.self in
    record { a_value = pair_high f (passed c.is_pair.ensures c.if-not-is_pair.false-raw); b_value = one_number }

pub rest-requires : goal.rest-requires
unfolding one
rest-requires c =
    let b = c in
    let f = b.args.self in
    let h : is_pair f ≡ true = passed b.is_pair.ensures b.if-not-is_pair.false-raw in
    let k : at_most f.high one ≡ true = passed b.at_most.ensures b.if-not-at_most.false-raw in
    let n : is_number f.high ≡ true = pair_high f h in
    record { m_bound = few f.high n; e_value = rw (number_back f.high n) (number_reach f.high n); one_value = rw (number_back f.high n) k }

pub rest-requires-2 : goal.rest-requires-2
unfolding one
rest-requires-2 c =
    let b = c in
    let f = b.args.self in
    let h : is_pair f ≡ true = passed b.is_pair.ensures b.if-not-is_pair.false-raw in
    let k : at_most f.high one ≡ true = passed b.at_most.ensures b.if-not-at_most.false-raw in
    let n : is_number f.low ≡ true = pair_low f h in
    record { m_bound = few f.low n; e_value = rw (number_back f.low n) (number_reach f.low n); one_value = rw (number_back f.low n) (low_below f h k) }
