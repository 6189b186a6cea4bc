-- What the quotient answers. Assumes nothing.
use mathlib.Core.Path.{refl}
use borrow.Author.Rules.{rules}
use Rattle.pair.specs.Calls.{answer, mapped}
use Rattle.pathway.specs.Inner.{share_with}
use Rattle.pathway.proofs.air.share_of_time.Goals as goal

pub returns-in_err-over : goal.returns-in_err-over
unfolding answer mapped share_with
returns-in_err-over c = rw (← c.averaging_time.ensures, ← c.in_err-over.ensures) (search rules)

pub returns : goal.returns
unfolding answer mapped share_with
returns c = rw (← c.averaging_time.ensures, ← c.in_ok-over.ensures) refl
