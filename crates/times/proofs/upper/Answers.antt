-- The digits fit the upper word, or are too many for it. Assumes nothing.
use native.Mathlib.Omega.{arith}
use Rattle.pair.specs.Calls.{answer}
use Rattle.times.proofs.TimeDigits.{ten_above, upper_most, upper_is, upper_refused}
use Rattle.times.proofs.upper.Goals as goal

pub nonzero_div-unit : goal.nonzero_div-unit
nonzero_div-unit c = rw c.ten_to-unit.ensures (ten_above c.args.places)

pub returns-then-unit-digits : goal.returns-then-unit-digits
unfolding answer
returns-then-unit-digits c =
    let s = c in
    upper_refused s.args.digits s.args.places c.ten_to-unit.result c.ten_to-unit.ensures c.if-unit-digits.true

pub overflow_mul-result : goal.overflow_mul-result
overflow_mul-result c =
    let s = c in
    record { fits = omega (arith, upper_most s.args.digits s.args.places c.ten_to-unit.result c.ten_to-unit.ensures c.if-unit-digits.false) }

pub returns : goal.returns
unfolding answer
returns c =
    let s = c in
    upper_is s.args.digits s.args.places c.ten_to-unit.result c.ten_to-unit.ensures c.if-unit-digits.false
