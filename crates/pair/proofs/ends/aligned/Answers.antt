-- The other number is rounded at a's last figure, and the sum to nine figures. Assumes nothing.
use mathlib.Core.Path.{◌≡◌, sym, subst}
use Prim.Native.Nat.{ℕ, ◌^◌, ◌≤◌}
use native.Mathlib.Omega.{arith}
use Rattle.pair.specs.Number.{place, rise}
use Rattle.pair.proofs.Alignment.{nine_small, not_less_place}
use Rattle.pair.proofs.Dividing.{divided_most}
use Rattle.pair.proofs.Numbers.{Nine, number_nine, number_back}
use Rattle.pair.proofs.Powers.{ten_above}
use Rattle.pair.proofs.Sums.{sum_rounded}
use Rattle.pair.proofs.ends.aligned.Goals as goal

pub overflow_add-s : goal.overflow_add-s
overflow_add-s c =
    let a = c in
    let g = c.above-g.result in
    let v : Nine a.args.a = number_nine a.args.a a.requires.a_value.0 a.requires.a_value.1 in
    let w : Nine a.args.b = number_nine a.args.b a.requires.b_value.0 a.requires.b_value.1 in
    let l : c.lowered.result ≤ 1000000000 = subst (λ (x : ℕ). x ≤ 1000000000) (sym c.lowered.ensures) (divided_most a.args.up a.args.b.significand (10 ^ g) 1000000000 (ten_above g) (omega (arith, w.most, ten_above g))) in
    omega (arith, v.most, l)

pub ten-requires : goal.ten-requires
ten-requires c =
    let b = c in
    let a = b in
    let g = b.above-g.result in
    let v : Nine a.args.a = number_nine a.args.a a.requires.a_value.0 a.requires.a_value.1 in
    let w : Nine a.args.b = number_nine a.args.b a.requires.b_value.0 a.requires.b_value.1 in
    let l : b.lowered.result ≤ 1000000000 = subst (λ (x : ℕ). x ≤ 1000000000) (sym b.lowered.ensures) (divided_most a.args.up a.args.b.significand (10 ^ g) 1000000000 (ten_above g) (omega (arith, w.most, ten_above g))) in
    record { le_m = (omega (arith, v.least), omega (arith, v.most, l)); e_bound = rw (number_back a.args.a a.requires.a_value.0) v.reach }

pub returns : goal.returns
returns c =
    let b = c in
    let a = b in
    let v : Nine a.args.a = number_nine a.args.a a.requires.a_value.0 a.requires.a_value.1 in
    let w : Nine a.args.b = number_nine a.args.b a.requires.b_value.0 a.requires.b_value.1 in
    let h : b.above-g.result ≡ rise a.args.b.exponent a.args.a.exponent = rw (number_back a.args.a a.requires.a_value.0, number_back a.args.b a.requires.b_value.0) at b.above-g.ensures in
    let o : place a.args.b.exponent ≤ place a.args.a.exponent = not_less_place (nine_small v) (nine_small w) a.requires.exponent_value in
    rw (c.ten.ensures, b.lowered.ensures, h, number_back a.args.a a.requires.a_value.0)
    (sum_rounded a.args.up a.args.a a.args.b v w o)
