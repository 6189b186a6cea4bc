-- Held against the cap, which is always entered. Assumes nothing.
use mathlib.Core.Path.{◌≡◌, sym, ◌∙◌, ap}
use Prim.Native.Nat.{ℕ}
use native.Mathlib.Omega.{arith}
use Rattle.pair.specs.declared.Pair.{Pair}
use Rattle.pair.specs.Calls.{is, answer}
use Rattle.sheet.specs.Sheet.{high_above, cap_of}
use Rattle.sheet.proofs.counting.exceeds.Goals as goal

pub returns-in_default : goal.returns-in_default
unfolding answer
returns-in_default c =
    let e = sym (ap answer c.in_default.is) ∙ c.cap_of.ensures in
    let z : ◌≡◌ {A = ℕ} 0 1 = cc in
    absurd (omega arith)

pub returns : goal.returns
unfolding answer
returns c =
    let b = c in
    let a = b.args in
    let e : is b.in-Ok.cap ≡ is (record { low = cap_of a.effect; high = cap_of a.effect }) = sym (ap answer b.in-Ok.is) ∙ b.cap_of.ensures in
    let s : b.in-Ok.cap ≡ record { low = cap_of a.effect; high = cap_of a.effect } = cc in
    c.is_above.ensures ∙ ap (λ (q : Pair). high_above q.high (is a.p)) s
