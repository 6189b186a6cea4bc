-- The lower digits are moved up to the lower word's end. Assumes nothing.
use native.Mathlib.Omega.{arith}
use Prim.Native.Nat.{◌-◌}
use Rattle.times.proofs.TimeDigits.{ten_above, lower_most, over_words, words_below}
use Rattle.times.proofs.across.Goals as goal

pub nonzero_div-result : goal.nonzero_div-result
nonzero_div-result c = rw c.ten_to-unit.ensures (ten_above (18 - c.args.places))

pub nonzero_rem-result : goal.nonzero_rem-result
nonzero_rem-result c = rw c.ten_to-unit.ensures (ten_above (18 - c.args.places))

pub overflow_mul-result : goal.overflow_mul-result
overflow_mul-result c =
    let s = c in
    rw (c.ten_to-unit.ensures, c.ten_to.ensures) (record { fits = omega (arith, lower_most s.args.digits s.args.places s.requires) })

pub returns : goal.returns
returns c =
    let s = c in
    rw (c.ten_to-unit.ensures, c.ten_to.ensures)
    (over_words s.args.digits s.args.places s.requires, words_below s.args.digits s.args.places s.requires s.ranges.digits.fits)
