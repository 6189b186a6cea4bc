-- The zeros fill m to nine figures, and the exponent falls by as many. Assumes nothing.
use mathlib.Core.Path.{◌≡◌, sym, ◌∙◌, ap}
use mathlib.Core.Bool.{Bool}
use Prim.Native.Nat.{ℕ, ◌+◌, ◌-◌, ◌*◌, ◌^◌, ◌≤◌, ◌<◌}
use native.Mathlib.Nat.{mul_assoc}
use native.Mathlib.Omega.{arith}
use lib.IntN.{ℤ, pos, ◌-ℤ◌}
use lib.Signed.{mag}
use mir.Facts.{to_z-of_z}
use Rattle.pair.specs.Number.{depth}
use Rattle.pair.specs.Rounding.{rounded}
use Rattle.pair.proofs.Exponents.{lowered}
use Rattle.pair.proofs.Numbers.{fits_minus, back}
use Rattle.pair.proofs.Powers.{ten_add}
use Rattle.pair.proofs.Rounds.{rounded_exact}
use Rattle.pair.proofs.rounding.normal.Goals as goal

filled : (up : Bool) (m k : ℕ) (e : ℤ) → k ≤ 8 → 100000000 ≤ m * 10 ^ k → m * 10 ^ k ≤ 999999999 → mag e < 250000 →
    record { significand = m * 10 ^ k; exponent = e -ℤ pos k } ≡ rounded up m 1 e
unfolding depth
filled up m k e few least most r =
    let nine : k + (9 - k) ≡ 9 = omega arith in
    rounded_exact up m (m * 10 ^ k) (9 - k) e (e -ℤ pos k)
    (mul_assoc m (10 ^ k) (10 ^ (9 - k)) ∙ ap (λ (x : ℕ). m * x) (sym (ten_add k (9 - k)) ∙ ap (λ (j : ℕ). 10 ^ j) nine))
    least most
    (lowered e k (9 - k) 9 (omega arith) (omega arith))

pub returns : goal.returns
returns c up =
    let a = c in
    let z = c.zeros-k in
    rw (c.power.ensures, to_z-of_z a.ranges.e, back {z = pos z.result} (omega (arith, z.ensures.0)), to_z-of_z (fits_minus a.args.e (pos z.result) (omega (arith, z.ensures.0))))
    (filled up a.args.m z.result a.args.e z.ensures.0 z.ensures.1 z.ensures.2 a.requires.e_bound)
