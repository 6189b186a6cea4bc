-- `cases::ranges::is_year_of` meets its contract: one law for each way out.
-- Assumes nothing.
use native.Mathlib.Omega.{arith}
use mathlib.Core.Path.{ap, ◌∙◌, subst, sym}
use Prim.Native.Nat.{ℕ, ◌^◌, ◌≤◌}
use lib.Dec.{lit<}
use mir.Facts.{to_z-of_z}
use Rattle.powers.proofs.PowerLaws.{ten_to_is}
use Rattle.powers.specs.Powers.{above, below}
use Rattle.cases.proofs.RangeLaws.{product_fits, year_to, year_above, year_below, year_near}
use Rattle.cases.proofs.ranges.is_year_of.Goals as goal

pub returns-then-raised-gt0 : goal.returns-then-raised-gt0
returns-then-raised-gt0 c =
    let s = c in
    let up = c.raised.ensures ∙ ap above (to_z-of_z s.ranges.power) in
    year_above s.args.guidance s.args.digits _ (omega (arith, up, c.if-raised-gt0.true))

pub returns-then-down-gt15 : goal.returns-then-down-gt15
returns-then-down-gt15 c =
    let s = c in
    let up = c.raised.ensures ∙ ap above (to_z-of_z s.ranges.power) in
    let down = c.lowered-down.ensures ∙ ap below (to_z-of_z s.ranges.power) in
    year_below s.args.guidance s.args.digits _ (omega (arith, up, c.if-raised-gt0.false)) s.ranges.digits.fits
    (omega (arith, down, c.if-down-gt15.true))

pub overflow_mul-result : goal.overflow_mul-result
overflow_mul-result c =
    product_fits 2009 15 (lit< tt) c.year.result c.lowered-down.result _
    (subst (λ (n : ℕ). n ≤ 2009) (sym c.year.ensures) (year_to _)) c.if-down-gt15.false (c.ten_to.ensures ∙ ten_to_is _ (omega arith))

pub returns : goal.returns
returns c =
    let s = c in
    let up = c.raised.ensures ∙ ap above (to_z-of_z s.ranges.power) in
    let down = c.lowered-down.ensures ∙ ap below (to_z-of_z s.ranges.power) in
    year_near s.args.guidance s.args.digits _ (omega (arith, up, c.if-raised-gt0.false)) _ _ c.year.ensures
    (c.ten_to.ensures ∙ ten_to_is _ (omega arith) ∙ ap (λ (n : ℕ). 10 ^ n) down)
