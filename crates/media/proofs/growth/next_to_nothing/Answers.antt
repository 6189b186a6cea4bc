-- The pair of 0 and the entry's end, which is checked. Assumes nothing.
use mathlib.Core.Path.{◌∙◌, ap}
use lib.Dec.{lit≤}
use lib.IntN.{negsuc}
use Rattle.pair.specs.declared.Pair.{Pair}
use Rattle.pair.specs.Number.{zero}
use Rattle.pair.specs.Calls.{answer, checked}
use Rattle.pair.proofs.Promises.{checked_is}
use Rattle.equations.specs.Ranges.{next_to_nothing}
use Rattle.equations.proofs.FastLaws.{next_pair}
use Rattle.media.proofs.Passing.{never_refused, as_written}
use Rattle.media.proofs.growth.next_to_nothing.Goals as goal

pub returns-in_err-least : goal.returns-in_err-least
unfolding answer
returns-in_err-least c = never_refused 1 (negsuc 24) (lit≤ tt) (lit≤ tt) c.in_err-least.ensures

pub returns : goal.returns
unfolding answer next_to_nothing zero
returns c =
    let b = c in
    c.of_ends.ensures
    ∙ ap (λ (p : Pair). checked (record { low = zero; high = p.high }))
    (as_written 1 (negsuc 24) (lit≤ tt) (lit≤ tt) b.in_ok-least.least b.in_ok-least.ensures)
    ∙ checked_is next_to_nothing next_pair
