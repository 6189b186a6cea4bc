-- A pair whose high end is 0. Assumes nothing.
use mathlib.Core.Path.{sym, ◌∙◌}
use Rattle.pair.proofs.Promises.{pair_none_is}
use Rattle.media.proofs.Passing.{ok_pair}
use Rattle.media.proofs.terms.is_none.Goals as goal

pub returns-then-is_ok : goal.returns-then-is_ok
returns-then-is_ok c h =
    let x = c.args.x in
    pair_none_is x (ok_pair x c.checked.result c.checked.ensures (sym c.is_ok.ensures.value ∙ c.if-is_ok.true)) (sym c.is_zero.ensures ∙ h)
