-- The tests in their order. Assumes nothing.
use mathlib.Core.Path.{◌≡◌}
use mathlib.Core.Bool.{true}
use native.Mathlib.Omega.{arith}
use lib.IntN.{pos}
use Prim.Native.Nat.{◌<◌}
use lib.Signed.{mag}
use mir.Facts.{to_z-of_z}
use Rattle.pair.specs.Number.{is_pair}
use Rattle.pair.proofs.Numbers.{pair_low, pair_high, fits_plus, number_back, number_mag}
use Rattle.pair.proofs.Providing.{passed}
use Rattle.pair.proofs.Raising.{absorbs_far}
use Rattle.pair.proofs.Pair.absorbs.Goals as goal

pub returns : goal.returns
returns c =
    let a = c.args in
    let h : is_pair a.self ≡ true = passed c.is_pair.ensures c.if-not-is_pair.false-raw in
    let k : is_pair a.other ≡ true = passed c.is_pair-2.ensures c.if-not-is_pair-2.false-raw in
    let m : mag a.other.high.exponent < 100000 = number_mag a.other.high (pair_high a.other k) in
    rw (number_back a.other.high (pair_high a.other k), number_back a.self.low (pair_low a.self h), to_z-of_z (fits_plus a.other.high.exponent (pos 9) (omega arith)))
    (absorbs_far a.self a.other h k (omega arith) (omega arith))
