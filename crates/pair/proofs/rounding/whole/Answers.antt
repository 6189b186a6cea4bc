-- Rounding up is dividing what is less than one more. Assumes nothing.
use mathlib.Core.Path.{sym}
use Rattle.pair.proofs.Dividing.{divided_down, divided_up}
use Rattle.pair.proofs.rounding.whole.Goals as goal

pub returns-then-up : goal.returns-then-up
returns-then-up c = let a = c in sym (divided_up a.args.n a.args.d a.args.up c.if-up.true a.requires.d_nonzero)

pub returns : goal.returns
returns c = let a = c in sym (divided_down a.args.n a.args.d a.args.up c.if-up.false)
