-- With and without a one taken from the upper word. Assumes nothing.
use native.Mathlib.Omega.{arith}
use Prim.Native.Nat.{ℕ, ◌+◌, ◌-◌, ◌≤◌}
use Rattle.times.proofs.TwoWords.{Bounded, bounded, taken_high, left_high, less_taken, less_left}
use Rattle.times.proofs.less.Goals as goal

one_left : (a b : ℕ) → b + 1 ≤ a → 1 ≤ a - b
one_left a b h = omega arith

no_more : (a b : ℕ) → b + 1 ≤ a → b ≤ a
no_more a b h = omega arith

pub overflow_sub-result : goal.overflow_sub-result
overflow_sub-result c =
    let s = c in
    let a = s.args.a in
    let b = s.args.b in
    no_more a.high b.high (taken_high a b s.requires.a_value.0 s.requires.a_value.1 s.requires.b_bound c.if-a-b.true)

pub overflow_sub-result-then-a-b : goal.overflow_sub-result-then-a-b
overflow_sub-result-then-a-b c =
    let s = c in
    let a = s.args.a in
    let b = s.args.b in
    one_left a.high b.high (taken_high a b s.requires.a_value.0 s.requires.a_value.1 s.requires.b_bound c.if-a-b.true)

pub overflow_add-result : goal.overflow_add-result
overflow_add-result c =
    let s = c in
    let a : Bounded s.args.a = bounded s.args.a s.requires.a_value.0 in
    record { fits = omega (arith, a.low) }

pub overflow_sub-result-then-a-b-2 : goal.overflow_sub-result-then-a-b-2
overflow_sub-result-then-a-b-2 c =
    let s = c in
    let b : Bounded s.args.b = bounded s.args.b s.requires.a_value.1 in
    omega (arith, b.low)

pub returns-then-a-b : goal.returns-then-a-b
returns-then-a-b c =
    let s = c in
    less_taken s.args.a s.args.b s.requires.a_value.0 s.requires.a_value.1 s.requires.b_bound c.if-a-b.true

pub overflow_sub-result-2 : goal.overflow_sub-result-2
overflow_sub-result-2 c =
    let s = c in
    left_high s.args.a s.args.b s.requires.a_value.0 s.requires.a_value.1 s.requires.b_bound

pub returns : goal.returns
returns c =
    let s = c in
    less_left s.args.a s.args.b s.requires.a_value.0 s.requires.a_value.1 s.requires.b_bound c.if-a-b.false
