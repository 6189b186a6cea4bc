-- By the pace of x, and refused where x is. Assumes nothing.
use mathlib.Core.Path.{refl, ap}
use borrow.Author.Rules.{rules}
use Rattle.pair.specs.Calls.{answer}
use Rattle.equations.specs.Page.{growth}
use Rattle.equations.specs.Readings.{pair_growing}
use Rattle.media.specs.Inner.{paced}
use Rattle.media.proofs.Growing.{growth_tested, growth_refused}
use Rattle.media.proofs.growth.g_at.Goals as goal

pub returns-in_err-e : goal.returns-in_err-e
unfolding answer
returns-in_err-e c = rw (c.in_err-e.was, growth_refused) (search rules)

pub returns-then-is_fast : goal.returns-then-is_fast
unfolding answer paced
returns-then-is_fast c =
    let t = c in
    rw (growth_tested c.in_ok-e.e (ap answer c.in_ok-e.was) t.is_fast.ensures c.if-is_fast.true) c.fast_build_up.ensures

pub returns : goal.returns
unfolding answer paced growth pair_growing
returns c =
    let t = c in
    rw (growth_tested c.in_ok-e.e (ap answer c.in_ok-e.was) t.is_fast.ensures c.if-is_fast.false, c.slow_build_up.ensures, c.sum_of.ensures) refl
