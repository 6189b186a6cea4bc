-- The loop keeps a series' term and the total up to it, and ends early where every later term is absorbed. Assumes nothing.
use mathlib.Core.Path.{sym, ◌∙◌}
use borrow.Author.Rules.{rules}
use Rattle.pair.specs.Calls.{answer}
use Rattle.equations.proofs.SeriesFigures.{first_is}
use Rattle.media.proofs.Passing.{is_not_refused}
use Rattle.media.proofs.Sofar.{start, at_none, entered, step_refused, again, stopped, done}
use Rattle.media.proofs.terms.sum_of.Goals as goal

pub returns-in_err-first : goal.returns-in_err-first
unfolding answer
returns-in_err-first g c = is_not_refused _ 53 (c.in_err-first.ensures ∙ (first_is g.S.Series.series).0)

pub returns-then-is_none : goal.returns-then-is_none
unfolding answer
returns-then-is_none g c = at_none g.S.Series.series c.args.x c.in_ok-first.first (sym c.in_ok-first.ensures) (c.is_none.ensures c.if-is_none.true)

pub loop-n-init : goal.loop-n-init
unfolding answer
loop-n-init g c = start g.S.Series.series c.args.x c.in_ok-first.first (sym c.in_ok-first.ensures)

pub returns-in_err-whole : goal.returns-in_err-whole
unfolding answer
returns-in_err-whole g c = entered c.loop-n.n c.loop-n-test.true c.in_err-whole.ensures

pub next-requires-clause-whole_value : goal.next-requires-clause-whole_value
unfolding answer
next-requires-clause-whole_value g c = sym c.in_ok-whole.ensures

pub returns-in_err-next : goal.returns-in_err-next
unfolding answer
returns-in_err-next g c =
    let l = c.loop-n in
    rw (← step_refused g.S.Series.series c.args.x l.term l.total l.n l.invariant c.loop-n-test.true _ c.in_err-next.ensures) (search rules)

pub returns-then-is_settled : goal.returns-then-is_settled
unfolding answer
returns-then-is_settled g c =
    let l = c.loop-n in
    c.raised.ensures
    ∙ stopped g.S.Series.series c.args.x l.term l.total l.n l.invariant c.loop-n-test.true c.in_ok-next.next c.in_ok-next.ensures c.in_ok-whole.whole (sym c.in_ok-whole.ensures)
    (c.is_settled.ensures c.if-is_settled.true)

pub loop-n-preserved : goal.loop-n-preserved
unfolding answer
loop-n-preserved g c =
    let l = c.loop-n in
    again g.S.Series.series c.args.x l.term l.total l.n l.invariant c.loop-n-test.true c.in_ok-next.next c.in_ok-next.ensures

pub returns : goal.returns
returns g c =
    let l = c.loop-n in
    c.closed.ensures ∙ done g.S.Series.series c.args.x l.term l.total l.n l.invariant c.loop-n-test.false
