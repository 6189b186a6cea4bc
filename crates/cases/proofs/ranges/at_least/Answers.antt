-- `cases::ranges::at_least` meets its contract: one law for each way out.
-- Assumes nothing.
use native.Mathlib.Omega.{arith}
use mathlib.Core.Path.{ap, ◌∙◌}
use Prim.Native.Nat.{ℕ, ◌^◌, ◌-◌}
use mir.Facts.{to_z-of_z}
use Rattle.powers.proofs.PowerLaws.{ten_to_is}
use Rattle.powers.specs.Powers.{below}
use Rattle.cases.proofs.RangeLaws.{least_small, least_far, least_near}
use Rattle.cases.proofs.ranges.at_least.Goals as goal

pub returns-then-down-le20 : goal.returns-then-down-le20
returns-then-down-le20 c = least_small c.args.digits _ c.requires (omega (arith, (c.lowered-down.ensures ∙ ap below (to_z-of_z c.ranges.power)), c.if-down-le20.true))

pub returns-then-short-gt19 : goal.returns-then-short-gt19
returns-then-short-gt19 c = least_far c.args.digits _ c.requires (omega (arith, (c.lowered-down.ensures ∙ ap below (to_z-of_z c.ranges.power)), c.if-down-le20.false)) c.ranges.digits.fits (omega (arith, (c.lowered-down.ensures ∙ ap below (to_z-of_z c.ranges.power)), c.if-short-gt19.true))

pub returns : goal.returns
returns c = least_near c.args.digits _ c.requires (omega (arith, (c.lowered-down.ensures ∙ ap below (to_z-of_z c.ranges.power)), c.if-down-le20.false)) _ (c.ten_to.ensures ∙ ten_to_is _ (omega arith) ∙ ap (λ (n : ℕ). 10 ^ (n - 20)) (c.lowered-down.ensures ∙ ap below (to_z-of_z c.ranges.power)))
