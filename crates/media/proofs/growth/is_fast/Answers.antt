-- The comparison of the high end with 64 decides. Assumes nothing.
use mathlib.Core.Path.{◌≡◌, refl, sym, ◌∙◌, ap}
use mathlib.Core.Bool.{Bool, true, false, not}
use lib.Dec.{lit≤}
use lib.IntN.{pos}
use Rattle.pair.specs.declared.Pair.{Pair}
use Rattle.pair.specs.Calls.{is, answer, compared, entry}
use Rattle.equations.specs.Ranges.{sixty_four}
use Rattle.equations.specs.Readings.{pace_if, pace_of}
use Rattle.media.specs.Inner.{paced}
use Rattle.media.proofs.Passing.{never_refused, as_written}
use Rattle.media.proofs.growth.is_fast.Goals as goal

pub returns-in_default : goal.returns-in_default
unfolding answer
returns-in_default c = never_refused 64 (pos 0) (lit≤ tt) (lit≤ tt) (sym (ap answer c.in_default.is) ∙ c.entry.ensures)

-- the comparison with 64 is the comparison with the bound
against : (x bound : Pair) → is bound ≡ entry 64 (pos 0) → compared x.high bound.high ≡ compared x.high sixty_four
unfolding sixty_four
against x bound h = ap (λ (p : Pair). compared x.high p.high) (as_written 64 (pos 0) (lit≤ tt) (lit≤ tt) bound h)

tested : (b : Bool) → pace_if (is b) ≡ paced (not b)
unfolding pace_if paced
tested true = refl
tested false = refl

pub returns-in-Ok-compare : goal.returns-in-Ok-compare
unfolding answer pace_of
returns-in-Ok-compare c = ap pace_if (sym (against c.args.x c.in-Ok.bound c.in-Ok.ensures) ∙ sym c.in-Ok-compare.ensures) ∙ tested c.in-Ok-compare.at_most

pub returns-in-Err : goal.returns-in-Err
unfolding answer pace_of pace_if paced
returns-in-Err c = ap pace_if (sym (against c.args.x c.in-Ok.bound c.in-Ok.ensures) ∙ sym c.in-Err.ensures)
