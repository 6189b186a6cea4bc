-- The words are added, and the lower ones carry. Assumes nothing.
use mathlib.Core.Path.{◌≡◌, sym, ◌∙◌}
use mathlib.Core.Bool.{true, and-false}
use Prim.Native.Nat.{◌+◌, ◌-◌, ◌/◌, ◌≤◌}
use native.Mathlib.Omega.{arith}
use mir.Syntax.{w64}
use mir.Val.{Fits}
use borrow.Author.Tests.{not-true, not-false}
use Rattle.pair.specs.Calls.{answer}
use Rattle.pair.proofs.Promises.{refused_as, told_as}
use Rattle.times.specs.declared.Years.{Years}
use Rattle.times.specs.Times.{amount, is_years, time_of, together}
use Rattle.times.proofs.TwoWords.{Bounded, bounded, carry_most, highs_refused, sum_refused, sum_is}
use Rattle.times.proofs.Years.together.Goals as goal

-- two times
both_told : (a b : Years) → is_years a ≡ true → is_years b ≡ true → time_of (amount a + amount b) ≡ together a b
unfolding together
both_told a b p q = told_as _ _ (rw (p, q))

few_enough : (a b : Years) → is_years a ≡ true → is_years b ≡ true → b.high ≤ 9999999999999999999 - a.high → Fits w64 (a.high + b.high + (a.low + b.low) / 1000000000000000000)
few_enough a b p q h = record { fits = omega (arith, h, (bounded a p).high, carry_most a b p q) }

pub returns-then-not-is_years : goal.returns-then-not-is_years
unfolding answer together
returns-then-not-is_years c =
    refused_as _ _ (rw (sym c.is_years.ensures ∙ not-true _ c.if-not-is_years.true-raw))

pub returns-then-not-is_years-2 : goal.returns-then-not-is_years-2
unfolding answer together
returns-then-not-is_years-2 c =
    refused_as _ _ (rw (sym c.is_years-2.ensures ∙ not-true _ c.if-not-is_years-2.true-raw, and-false))

pub overflow_sub-self : goal.overflow_sub-self
overflow_sub-self c =
    let t = c in
    let s = t.args in
    (bounded s.self (sym t.is_years.ensures ∙ not-false _ t.if-not-is_years.false-raw)).high

pub returns-then-self-other : goal.returns-then-self-other
unfolding answer
returns-then-self-other c =
    let t = c in
    let s = t.args in
    let p : is_years s.self ≡ true = sym t.is_years.ensures ∙ not-false _ t.if-not-is_years.false-raw in
    let q : is_years s.other ≡ true = sym t.is_years-2.ensures ∙ not-false _ t.if-not-is_years-2.false-raw in
    highs_refused s.self s.other p q c.if-self-other.true ∙ both_told s.self s.other p q

pub overflow_add-low : goal.overflow_add-low
overflow_add-low c =
    let t = c in
    let s = t.args in
    let a : Bounded s.self = bounded s.self (sym t.is_years.ensures ∙ not-false _ t.if-not-is_years.false-raw) in
    let b : Bounded s.other = bounded s.other (sym t.is_years-2.ensures ∙ not-false _ t.if-not-is_years-2.false-raw) in
    record { fits = omega (arith, a.low, b.low) }

pub overflow_add-high-2 : goal.overflow_add-high-2
overflow_add-high-2 c =
    let t = c in
    let s = t.args in
    let p : is_years s.self ≡ true = sym t.is_years.ensures ∙ not-false _ t.if-not-is_years.false-raw in
    let q : is_years s.other ≡ true = sym t.is_years-2.ensures ∙ not-false _ t.if-not-is_years-2.false-raw in
    few_enough s.self s.other p q c.if-self-other.false

pub returns-then-high-gt-MOST_HIGH : goal.returns-then-high-gt-MOST_HIGH
unfolding answer
returns-then-high-gt-MOST_HIGH c =
    let t = c in
    let s = t.args in
    let p : is_years s.self ≡ true = sym t.is_years.ensures ∙ not-false _ t.if-not-is_years.false-raw in
    let q : is_years s.other ≡ true = sym t.is_years-2.ensures ∙ not-false _ t.if-not-is_years-2.false-raw in
    sum_refused s.self s.other p q c.if-high-gt-MOST_HIGH.true ∙ both_told s.self s.other p q

pub returns : goal.returns
unfolding answer
returns c =
    let t = c in
    let s = t.args in
    let p : is_years s.self ≡ true = sym t.is_years.ensures ∙ not-false _ t.if-not-is_years.false-raw in
    let q : is_years s.other ≡ true = sym t.is_years-2.ensures ∙ not-false _ t.if-not-is_years-2.false-raw in
    sum_is s.self s.other p q c.if-high-gt-MOST_HIGH.false ∙ both_told s.self s.other p q
