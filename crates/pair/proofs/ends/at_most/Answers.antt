-- 0 first, then the exponents, then the significands. Assumes nothing.
use mathlib.Core.Path.{◌≡◌, sym}
use mathlib.Core.Bool.{false}
use native.Mathlib.Nat.{le_antisymm}
use native.Mathlib.Omega.{arith}
use lib.Signed.{lt_z}
use Rattle.pair.proofs.Alignment.{nine_small, not_less_place, order_same}
use Rattle.pair.proofs.Numbers.{Nine, number_nine, number_back}
use Rattle.pair.proofs.ends.at_most.Goals as goal

pub returns : goal.returns
returns c =
    let a = c in
    let v : Nine a.args.a = number_nine a.args.a a.requires.a_value (omega arith) in
    let w : Nine a.args.b = number_nine a.args.b a.requires.b_value (omega arith) in
    let t : lt_z a.args.b.exponent a.args.a.exponent ≡ false = rw (number_back a.args.b a.requires.b_value, number_back a.args.a a.requires.a_value) at c.if-b-a.false in
    let u : lt_z a.args.a.exponent a.args.b.exponent ≡ false = rw (number_back a.args.a a.requires.a_value, number_back a.args.b a.requires.b_value) at c.if-a-b.false in
    sym (order_same a.args.a a.args.b v w (le_antisymm (not_less_place (nine_small w) (nine_small v) t) (not_less_place (nine_small v) (nine_small w) u)))
