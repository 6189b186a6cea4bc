-- Up to 19 the table has the power itself. Assumes nothing.
use mathlib.Core.Path.{◌∙◌}
use native.Mathlib.Omega.{arith}
use Rattle.powers.proofs.PowerLaws.{ten_to_is}
use Rattle.times.proofs.ten_to.Goals as goal

pub returns : goal.returns
returns c = c.ten_to.ensures ∙ ten_to_is c.args.k (omega arith)
