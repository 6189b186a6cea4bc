-- Two times are compared by their words. Assumes nothing.
use mathlib.Core.Path.{sym, ◌∙◌, ap}
use mathlib.Core.Bool.{and-false}
use borrow.Author.Tests.{not-true, not-false}
use Rattle.pair.specs.Calls.{is, answer}
use Rattle.pair.proofs.Promises.{refused_as}
use Rattle.times.specs.Times.{at_most}
use Rattle.times.proofs.TimePromises.{at_most_told}
use Rattle.times.proofs.Years.compare.Goals as goal

pub returns-then-not-is_years : goal.returns-then-not-is_years
unfolding answer at_most
returns-then-not-is_years c =
    refused_as _ _ (rw (sym c.is_years.ensures ∙ not-true _ c.if-not-is_years.true-raw))

pub returns-then-not-is_years-2 : goal.returns-then-not-is_years-2
unfolding answer at_most
returns-then-not-is_years-2 c =
    refused_as _ _ (rw (sym c.is_years-2.ensures ∙ not-true _ c.if-not-is_years-2.true-raw, and-false))

pub at_most-requires : goal.at_most-requires
at_most-requires c =
    (sym c.is_years.ensures ∙ not-false _ c.if-not-is_years.false-raw, sym c.is_years-2.ensures ∙ not-false _ c.if-not-is_years-2.false-raw)

pub returns : goal.returns
unfolding answer
returns c =
    let t = c in
    let s = t.args in
    ap is c.at_most.ensures
    ∙ sym (at_most_told s.self s.bound (sym t.is_years.ensures ∙ not-false _ t.if-not-is_years.false-raw) (sym t.is_years-2.ensures ∙ not-false _ t.if-not-is_years-2.false-raw))
