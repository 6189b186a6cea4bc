-- By where the last digit stands: in the upper word, or over both. Assumes nothing.
use mathlib.Core.Path.{◌≡◌, sym, ◌∙◌, ap}
use mathlib.Core.Bool.{◌&&◌}
use Prim.Native.Nat.{ℕ, ◌+◌, ◌-◌, ◌*◌, ◌^◌, ◌≤◌}
use native.Mathlib.Omega.{arith}
use lib.IntN.{pos}
use lib.Signed.{le_z}
use mir.Facts.{to_z-of_z}
use borrow.Author.Tests.{lt-ltb, not-true, not-false}
use Rattle.pair.specs.Calls.{is, answer}
use Rattle.pair.proofs.Promises.{refused_as, told_as, provided_true}
use Rattle.times.specs.Times.{words_of, time_of, least, places, printed_amount, printed}
use Rattle.times.proofs.Years.printed.Goals as goal

pub returns-then-not-is_place : goal.returns-then-not-is_place
unfolding answer printed
returns-then-not-is_place c =
    let s = c in
    let e = s.args.power in
    refused_as (le_z least e && le_z e (pos 9)) (time_of (printed_amount s.args.digits e))
    (sym (not-true _ c.if-not-is_place.true-raw) ∙ (rw (to_z-of_z s.ranges.power) at c.is_place.ensures))

pub places-k-requires : goal.places-k-requires
places-k-requires c = let s = c in rw (to_z-of_z s.ranges.power) (sym (rw (to_z-of_z s.ranges.power) at c.is_place.ensures) ∙ not-false _ c.if-not-is_place.false-raw)

pub returns-then-k-lt18 : goal.returns-then-k-lt18
unfolding answer printed printed_amount time_of
returns-then-k-lt18 c =
    let t = c in
    let s = t in
    let m = s.args.digits in
    let e = s.args.power in
    let k = c.places-k.result in
    let r : k ≡ places e = rw (to_z-of_z s.ranges.power) at c.places-k.ensures.0 in
    ap is c.across.ensures.0
    ∙ sym (provided_true (is (words_of (m * 10 ^ k))) (lt-ltb (m * 10 ^ k) (10 ^ 37) c.across.ensures.1))
    ∙ ap (λ (i : ℕ). time_of (m * 10 ^ i)) r
    ∙ told_as (le_z least e && le_z e (pos 9)) (time_of (printed_amount m e)) (sym (not-false _ t.if-not-is_place.false-raw) ∙ (rw (to_z-of_z s.ranges.power) at t.is_place.ensures))

pub returns : goal.returns
unfolding printed printed_amount
returns c =
    let t = c in
    let s = t in
    let m = s.args.digits in
    let e = s.args.power in
    let k = c.places-k.result in
    let r : k ≡ places e = rw (to_z-of_z s.ranges.power) at c.places-k.ensures.0 in
    c.upper.ensures
    ∙ ap (λ (i : ℕ). time_of (m * 10 ^ i)) (back k c.if-k-lt18.false ∙ r)
    ∙ told_as (le_z least e && le_z e (pos 9)) (time_of (printed_amount m e)) (sym (not-false _ t.if-not-is_place.false-raw) ∙ (rw (to_z-of_z s.ranges.power) at t.is_place.ensures))
  where
    back : (k : ℕ) → 18 ≤ k → k - 18 + 18 ≡ k
    back k h = omega arith
