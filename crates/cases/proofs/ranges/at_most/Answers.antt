-- `cases::ranges::at_most` meets its contract: one law for each way out.
-- Assumes nothing.
use native.Mathlib.Omega.{arith}
use mathlib.Core.Path.{ap, ◌∙◌}
use Prim.Native.Nat.{ℕ, ◌^◌}
use native.Mathlib.Nat.{le_of_lt}
use lib.Dec.{lit<}
use mir.Facts.{to_z-of_z}
use Rattle.powers.proofs.PowerLaws.{ten_to_is}
use Rattle.powers.specs.Powers.{above, below}
use Rattle.cases.proofs.RangeLaws.{ten_some, product_fits, above_all, above_near, below_all, below_few, below_near}
use Rattle.cases.proofs.ranges.at_most.Goals as goal

pub returns-then-up-gt9 : goal.returns-then-up-gt9
returns-then-up-gt9 c =
    let s = c in
    let up = c.raised-up.ensures ∙ ap above (to_z-of_z s.ranges.power) in
    above_all s.args.most s.args.digits _ s.requires s.ranges.most.fits (omega (arith, up, c.if-up-gt9.true))

pub nonzero_div-result : goal.nonzero_div-result
nonzero_div-result c = omega (arith, ten_some _ _ (c.ten_to.ensures ∙ ten_to_is _ (omega arith)))

pub returns-then-up-gt0 : goal.returns-then-up-gt0
returns-then-up-gt0 c =
    let s = c in
    let up = c.raised-up.ensures ∙ ap above (to_z-of_z s.ranges.power) in
    above_near s.args.most s.args.digits _ s.requires (omega (arith, up, c.if-up-gt0.true)) _
    (c.ten_to.ensures ∙ ten_to_is _ (omega arith) ∙ ap (λ (n : ℕ). 10 ^ n) up)

pub overflow_mul-result : goal.overflow_mul-result
overflow_mul-result c =
    let s = c in
    product_fits 4294967296 9 (lit< tt) s.args.most c.lowered-down.result _ (le_of_lt s.ranges.most.fits) c.if-down-le9.true (c.ten_to-then-down-le9.ensures ∙ ten_to_is _ (omega arith))

pub returns-then-down-le9 : goal.returns-then-down-le9
returns-then-down-le9 c =
    let s = c in
    let up = c.raised-up.ensures ∙ ap above (to_z-of_z s.ranges.power) in
    let down = c.lowered-down.ensures ∙ ap below (to_z-of_z s.ranges.power) in
    below_few s.args.most s.args.digits _ s.requires (omega (arith, up, c.if-up-gt0.false)) _
    (c.ten_to-then-down-le9.ensures ∙ ten_to_is _ (omega arith) ∙ ap (λ (n : ℕ). 10 ^ n) down)

pub returns-then-down-gt19 : goal.returns-then-down-gt19
returns-then-down-gt19 c =
    let s = c in
    let up = c.raised-up.ensures ∙ ap above (to_z-of_z s.ranges.power) in
    let down = c.lowered-down.ensures ∙ ap below (to_z-of_z s.ranges.power) in
    below_all s.args.most s.args.digits _ s.requires (omega (arith, up, c.if-up-gt0.false)) s.ranges.digits.fits
    (omega (arith, down, c.if-down-gt19.true))

pub nonzero_div-result-2 : goal.nonzero_div-result-2
nonzero_div-result-2 c = omega (arith, ten_some _ _ (c.ten_to-2.ensures ∙ ten_to_is _ (omega arith)))

pub returns : goal.returns
returns c =
    let s = c in
    let up = c.raised-up.ensures ∙ ap above (to_z-of_z s.ranges.power) in
    let down = c.lowered-down.ensures ∙ ap below (to_z-of_z s.ranges.power) in
    below_near s.args.most s.args.digits _ s.requires (omega (arith, up, c.if-up-gt0.false)) _
    (c.ten_to-2.ensures ∙ ten_to_is _ (omega arith) ∙ ap (λ (n : ℕ). 10 ^ n) down)
