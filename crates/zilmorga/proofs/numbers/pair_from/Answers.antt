-- Both ends are numbers, or there is no pair. Assumes nothing.
use Rattle.std.proofs.Common.{rules, sym, ap, ◌∙◌}
use Rattle.pair.specs.Calls.{answer}
use Rattle.zilmorga.specs.Numbers.{and_then, pair_from}
use Rattle.zilmorga.proofs.Fields.{passed}
use Rattle.zilmorga.proofs.numbers.pair_from.Goals as goal

pub returns-in_err-low : goal.returns-in_err-low
unfolding answer and_then pair_from
returns-in_err-low c =
    let low = passed c.args.a.now 0 1 c.number_of-arg-1.given c.number_of-arg-2-1.given c.number_of.ensures in
    let here = sym low ∙ ap answer c.in_err-low.was in
    rw here (search rules)

pub returns-in_err-high : goal.returns-in_err-high
unfolding answer and_then pair_from
returns-in_err-high c =
    let low = passed c.args.a.now 0 1 c.number_of-arg-1.given c.number_of-arg-2-1.given c.number_of.ensures in
    let high = passed c.args.a.now 2 3 c.number_of-arg-3-1.given c.number_of-arg-4-1.given c.number_of-2.ensures in
    rw (sym low ∙ ap answer c.in_ok-low.was, sym high ∙ ap answer c.in_err-high.was) (search rules)

pub returns : goal.returns
unfolding answer and_then pair_from
returns c =
    let low = passed c.args.a.now 0 1 c.number_of-arg-1.given c.number_of-arg-2-1.given c.number_of.ensures in
    let high = passed c.args.a.now 2 3 c.number_of-arg-3-1.given c.number_of-arg-4-1.given c.number_of-2.ensures in
    rw (sym low ∙ ap answer c.in_ok-low.was, sym high ∙ ap answer c.in_ok-high.was) (search rules)
