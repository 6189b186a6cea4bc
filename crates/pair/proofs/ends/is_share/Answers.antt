-- 0 is; with an exponent above 0 nothing else is; else the digits are held against the places. Assumes nothing.
use mathlib.Core.Path.{◌≡◌, sym, ◌∙◌, ap}
use mathlib.Core.Bool.{false}
use Prim.Native.Nat.{◌^◌}
use native.Mathlib.Omega.{arith}
use lib.Dec.{leb}
use lib.IntN.{pos}
use lib.Signed.{lt_z}
use mir.Facts.{to_z-of_z}
use borrow.Author.Tests.{le-leb}
use Rattle.pair.specs.Number.{rise}
use Rattle.pair.proofs.Alignment.{Small, not_less_place}
use Rattle.pair.proofs.ExactEnds.{whole_small}
use Rattle.pair.proofs.Numbers.{reach_mag}
use Rattle.pair.proofs.Ordered.{size_small}
use Rattle.pair.proofs.Powers.{ten_rises}
use Rattle.pair.proofs.Rests.{places, share_is}
use Rattle.pair.proofs.ends.is_share.Goals as goal

pub returns-then-d-gt11 : goal.returns-then-d-gt11
returns-then-d-gt11 c =
    let b = c in
    let a = b in
    let e = a.args.e in
    let d = c.above-d.result in
    let s : Small e = size_small (reach_mag e a.requires.e_value) in
    let t : lt_z (pos 0) e ≡ false = rw (to_z-of_z a.ranges.e) at c.if-e-gt0.false in
    let r : d ≡ rise e (pos 0) = rw (to_z-of_z a.ranges.e) at c.above-d.ensures in
    sym (share_is a.args.m d e s (places e d s (not_less_place whole_small s t) r) ∙ le-leb a.args.m (10 ^ d) (omega (arith, a.requires.m_bound, ten_rises {i = 12} {j = d} (omega arith))))

pub returns : goal.returns
returns c =
    let b = c in
    let a = b in
    let e = a.args.e in
    let d = c.above-d.result in
    let s : Small e = size_small (reach_mag e a.requires.e_value) in
    let t : lt_z (pos 0) e ≡ false = rw (to_z-of_z a.ranges.e) at c.if-e-gt0.false in
    let r : d ≡ rise e (pos 0) = rw (to_z-of_z a.ranges.e) at c.above-d.ensures in
    ap (leb a.args.m) c.power.ensures ∙ sym (share_is a.args.m d e s (places e d s (not_less_place whole_small s t) r))
