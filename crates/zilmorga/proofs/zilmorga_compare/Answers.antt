-- `zilmorga_compare` writes 1 or 0, or refuses. Assumes nothing.
use mathlib.Core.Path.{refl}
use Rattle.zilmorga.specs.Calls.{comparison}
use Rattle.zilmorga.proofs.Fields.{passed}
use borrow.Author.Rules.{rules}
use Rattle.zilmorga.proofs.zilmorga_compare.Goals as goal

pub returns : goal.returns
unfolding comparison
returns c =
    let s = c in
    let x = passed s.args.end.now 0 1 c.number_of-arg-1.given c.number_of-arg-2-1.given c.number_of-x.ensures in
    let y = passed s.args.bound.now 0 1 c.number_of-arg-3-1.given c.number_of-arg-4-1.given c.number_of-y.ensures in
    rw (c.put_order.ensures, c.compared.ensures, x, y) refl
