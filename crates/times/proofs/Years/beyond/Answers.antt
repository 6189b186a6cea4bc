-- The difference of the words, rounded once. Assumes nothing.
use mathlib.Core.Path.{sym, ◌∙◌, ap}
use mathlib.Core.Bool.{and-false}
use borrow.Author.Tests.{leb-true, not-true, not-false}
use Rattle.pair.specs.Calls.{answer}
use Rattle.pair.proofs.Promises.{refused_as}
use Rattle.times.specs.Times.{amount, as_pair, beyond}
use Rattle.times.proofs.TimePromises.{beyond_told}
use Rattle.times.proofs.Years.beyond.Goals as goal

pub returns-then-not-is_years : goal.returns-then-not-is_years
unfolding answer beyond
returns-then-not-is_years c =
    refused_as _ _ (rw (sym c.is_years.ensures ∙ not-true _ c.if-not-is_years.true-raw))

pub returns-then-not-is_years-2 : goal.returns-then-not-is_years-2
unfolding answer beyond
returns-then-not-is_years-2 c =
    refused_as _ _ (rw (sym c.is_years-2.ensures ∙ not-true _ c.if-not-is_years-2.true-raw, and-false))

pub at_most-requires : goal.at_most-requires
at_most-requires c =
    (sym c.is_years-2.ensures ∙ not-false _ c.if-not-is_years-2.false-raw, sym c.is_years.ensures ∙ not-false _ c.if-not-is_years.false-raw)

pub returns-then-not-at_most : goal.returns-then-not-at_most
unfolding answer beyond
returns-then-not-at_most c =
    refused_as _ _ (simp (sym c.at_most.ensures ∙ not-true _ c.if-not-at_most.true-raw, and-false))

pub less-requires : goal.less-requires
less-requires c =
    let t = c in
    let s = t.args in record { a_value = (sym t.is_years.ensures ∙ not-false _ t.if-not-is_years.false-raw, sym t.is_years-2.ensures ∙ not-false _ t.if-not-is_years-2.false-raw); b_bound = leb-true (amount s.other) (amount s.self) (sym c.at_most.ensures ∙ not-false _ c.if-not-at_most.false-raw) }

pub returns : goal.returns
returns c =
    let u = c in
    let t = u in
    let s = t.args in
    c.pair.ensures
    ∙ ap as_pair c.less.ensures
    ∙ sym
    (beyond_told s.self s.other (sym t.is_years.ensures ∙ not-false _ t.if-not-is_years.false-raw) (sym t.is_years-2.ensures ∙ not-false _ t.if-not-is_years-2.false-raw)
    (leb-true (amount s.other) (amount s.self) (sym u.at_most.ensures ∙ not-false _ u.if-not-at_most.false-raw)))
