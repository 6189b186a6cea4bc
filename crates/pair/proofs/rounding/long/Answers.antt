-- What is below the first figures is rounded at their last place, and these to nine figures. Assumes nothing.
use mathlib.Core.Path.{sym, ◌∙◌, ap, subst}
use Prim.Native.Nat.{ℕ, ◌*◌, ◌≤◌}
use native.Mathlib.Nat.{pos_of_ne-zero}
use native.Mathlib.Omega.{arith}
use lib.Dec.{lit<}
use lib.IntN.{pos}
use mir.Facts.{to_z-of_z}
use Rattle.pair.specs.Rounding.{rounded}
use Rattle.pair.proofs.Dividing.{divided_most}
use Rattle.pair.proofs.Exponents.{mag_plus}
use Rattle.pair.proofs.Numbers.{fits_plus}
use Rattle.pair.proofs.Rounds.{rounded_words}
use Rattle.pair.proofs.rounding.long.Goals as goal

pub overflow_add-first : goal.overflow_add-first
overflow_add-first c =
    let a = c in
    let l : c.whole.result ≤ 1000000000 = subst (λ (x : ℕ). x ≤ 1000000000) (sym c.whole.ensures) (divided_most a.args.up a.args.low 1000000000 1000000000 (lit< tt) a.requires.low_bound) in
    record { fits = omega (arith, l, c.if-high-lt1000000000.true) }

pub figured-requires-then-high-lt1000000000 : goal.figured-requires-then-high-lt1000000000
figured-requires-then-high-lt1000000000 c =
    let b = c in
    let a = b in
    let l : b.whole.result ≤ 1000000000 = subst (λ (x : ℕ). x ≤ 1000000000) (sym b.whole.ensures) (divided_most a.args.up a.args.low 1000000000 1000000000 (lit< tt) a.requires.low_bound) in record { m_bound = omega (arith, l, b.if-high-lt1000000000.true); e_bound = rw (to_z-of_z a.ranges.e, to_z-of_z (fits_plus a.args.e (pos 9) (omega arith))) (omega (arith, a.requires.e_bound, mag_plus a.args.e (pos 9))) }

pub returns-then-high-lt1000000000 : goal.returns-then-high-lt1000000000
returns-then-high-lt1000000000 c =
    let b = c in
    let a = b in
    let high = a.args.high in
    rw (c.figured-then-high-lt1000000000.ensures, b.whole.ensures, to_z-of_z a.ranges.e, to_z-of_z (fits_plus a.args.e (pos 9) (omega arith)))
    (rounded_words a.args.up (high * 1000000000) a.args.low 9 a.args.e (omega (arith, pos_of_ne-zero b.if-high-eq0.false))
    ∙ ap (λ (n : ℕ). rounded a.args.up n 1 a.args.e) (omega arith))

pub overflow_add-first-2 : goal.overflow_add-first-2
overflow_add-first-2 c =
    let a = c in
    let l : c.whole-2.result ≤ 1 = subst (λ (x : ℕ). x ≤ 1) (sym c.whole-2.ensures) (divided_most a.args.up a.args.low 1000000000000000000 1 (lit< tt) a.requires.low_bound) in
    record { fits = omega (arith, l, a.requires.high_bound) }

pub figured-requires-2 : goal.figured-requires-2
figured-requires-2 c =
    let b = c in
    let a = b in
    let l : b.whole-2.result ≤ 1 = subst (λ (x : ℕ). x ≤ 1) (sym b.whole-2.ensures) (divided_most a.args.up a.args.low 1000000000000000000 1 (lit< tt) a.requires.low_bound) in record { m_bound = omega (arith, l, a.requires.high_bound); e_bound = rw (to_z-of_z a.ranges.e, to_z-of_z (fits_plus a.args.e (pos 18) (omega arith))) (omega (arith, a.requires.e_bound, mag_plus a.args.e (pos 18))) }

pub returns : goal.returns
returns c =
    let b = c in
    let a = b in
    rw (c.figured-2.ensures, b.whole-2.ensures, to_z-of_z a.ranges.e, to_z-of_z (fits_plus a.args.e (pos 18) (omega arith)))
    (rounded_words a.args.up a.args.high a.args.low 18 a.args.e (omega (arith, b.if-high-lt1000000000.false)))
