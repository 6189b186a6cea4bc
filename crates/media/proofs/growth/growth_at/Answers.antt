-- By the pace of x, and refused where x is. Assumes nothing.
use mathlib.Core.Path.{refl, ap}
use Rattle.pair.specs.Calls.{answer}
use Rattle.equations.specs.Formula.{pairs}
use Rattle.equations.specs.Page.{growth}
use Rattle.equations.specs.Readings.{pair_growing}
use Rattle.media.specs.Inner.{paced}
use Rattle.media.proofs.Growing.{growth_tested, growth_refused}
use Rattle.media.proofs.growth.growth_at.Goals as goal

pub returns-in_default : goal.returns-in_default
unfolding answer
returns-in_default c = rw (c.in_default.is, growth_refused) (refl, refl)

pub returns-then-is_fast : goal.returns-then-is_fast
unfolding answer paced growth pair_growing pairs
returns-then-is_fast c =
    let t = c in
    rw (growth_tested c.in-Ok.e (ap answer c.in-Ok.is) t.is_fast.ensures c.if-is_fast.true, c.over-h.ensures, c.one_minus.ensures, c.fast_build_up-g.ensures) (refl, refl)

pub returns : goal.returns
unfolding answer paced growth pair_growing
returns c =
    let t = c in
    rw (growth_tested c.in-Ok.e (ap answer c.in-Ok.is) t.is_fast.ensures c.if-is_fast.false, c.mean_build_up-h.ensures, c.sum_of.ensures, c.slow_build_up-g.ensures, c.sum_of-phi.ensures) (refl, refl)
