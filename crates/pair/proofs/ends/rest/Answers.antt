-- 0 and 1 by themselves, then by how many places m has. Assumes nothing.
use mathlib.Core.Path.{◌≡◌, sym, ◌∙◌, ap, subst}
use mathlib.Core.Bool.{Bool, true, not}
use Prim.Native.Nat.{ℕ, ◌+◌, ◌-◌, ◌^◌, ◌≤◌, ◌<◌}
use native.Mathlib.Omega.{arith}
use lib.Dec.{lit<}
use lib.IntN.{ℤ, pos}
use lib.Signed.{lt_z}
use mir.Facts.{to_z-of_z}
use borrow.Author.Tests.{leb-true}
use Rattle.pair.specs.Number.{depth, place, rise, at_most, as_printed, one}
use Rattle.pair.specs.Rounding.{divided}
use Rattle.pair.proofs.Alignment.{Small, less_place}
use Rattle.pair.proofs.Dividing.{divided_most}
use Rattle.pair.proofs.ExactEnds.{whole_small}
use Rattle.pair.proofs.Exponents.{lt_z_le_z}
use Rattle.pair.proofs.Numbers.{reach_mag}
use Rattle.pair.proofs.Ordered.{size_small}
use Rattle.pair.proofs.Powers.{ten_above, ten_rises}
use Rattle.pair.proofs.Rests.{places, share_is, rest_below, rest_rounded}
use Rattle.pair.proofs.ends.rest.Goals as goal

-- m × 10^e with d places
below_one : (e : ℤ) → Small e → lt_z e (pos 0) ≡ true → place e ≤ place (pos 0)
below_one e s t = let l : place e < place (pos 0) = less_place s whole_small t in omega arith

digits : (m d : ℕ) (e : ℤ) → Small e → d + place e ≡ depth → at_most (as_printed m e) one ≡ true → m ≤ 10 ^ d
digits m d e s p h = leb-true m (10 ^ d) (sym (share_is m d e s p) ∙ h)

-- what is taken away past twelve places
taken : (up : Bool) (m d : ℕ) → 12 < d → m ≤ 999999999999 → divided up m (10 ^ (d - 9)) ≤ 100000000
taken up m d far few = divided_most up m (10 ^ (d - 9)) 100000000 (ten_above (d - 9)) (omega (arith, ten_rises {i = 4} {j = d - 9} (omega arith)))

pub overflow_sub-lowered : goal.overflow_sub-lowered
overflow_sub-lowered c =
    let a = c in
    let l : c.lowered.result ≤ 100000000 = subst (λ (x : ℕ). x ≤ 100000000) (sym c.lowered.ensures) (taken (not a.args.up) a.args.m c.above-d.result c.if-d-gt12.true a.requires.m_bound) in
    omega (arith, l)

pub ten-requires : goal.ten-requires
ten-requires c =
    let a = c in
    let l : c.lowered.result ≤ 100000000 = subst (λ (x : ℕ). x ≤ 100000000) (sym c.lowered.ensures) (taken (not a.args.up) a.args.m c.above-d.result c.if-d-gt12.true a.requires.m_bound) in
    record { le_m = (omega (arith, l), omega arith); e_bound = lit< tt }

pub returns-then-d-gt12 : goal.returns-then-d-gt12
returns-then-d-gt12 c =
    let b = c in
    let a = b in
    let e = a.args.e in
    let d = c.above-d.result in
    let s : Small e = size_small (reach_mag e a.requires.e_value) in
    let t : lt_z e (pos 0) ≡ true = lt_z_le_z e (pos 0) ∙ ap not (rw (to_z-of_z a.ranges.e) at c.if-e-ge0.false) in
    let r : d ≡ rise e (pos 0) = rw (to_z-of_z a.ranges.e) at c.above-d.ensures in
    rw (c.ten.ensures, c.lowered.ensures)
    (rest_rounded a.args.up a.args.m d e s (places e d s (below_one e s t) r) c.if-d-gt12.true a.requires.m_bound)

pub overflow_sub-power : goal.overflow_sub-power
overflow_sub-power c =
    let b = c in
    let a = b in
    let e = a.args.e in
    let d = c.above-d.result in
    let s : Small e = size_small (reach_mag e a.requires.e_value) in
    let t : lt_z e (pos 0) ≡ true = lt_z_le_z e (pos 0) ∙ ap not (rw (to_z-of_z a.ranges.e) at c.if-e-ge0.false) in
    let r : d ≡ rise e (pos 0) = rw (to_z-of_z a.ranges.e) at c.above-d.ensures in
    omega (arith, c.power.ensures, digits a.args.m d e s (places e d s (below_one e s t) r) a.requires.one_value)

pub returns : goal.returns
returns c =
    let b = c in
    let a = b in
    let e = a.args.e in
    let d = c.above-d.result in
    let s : Small e = size_small (reach_mag e a.requires.e_value) in
    let t : lt_z e (pos 0) ≡ true = lt_z_le_z e (pos 0) ∙ ap not (rw (to_z-of_z a.ranges.e) at c.if-e-ge0.false) in
    let r : d ≡ rise e (pos 0) = rw (to_z-of_z a.ranges.e) at c.above-d.ensures in
    rw (c.figured.ensures, c.power.ensures, to_z-of_z a.ranges.e) (rest_below a.args.up a.args.m d e s (places e d s (below_one e s t) r))
