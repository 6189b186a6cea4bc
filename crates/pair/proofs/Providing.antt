-- A call's tests one after the other are its definition's condition. Assumes nothing.
use mathlib.Core.Path.{◌≡◌, refl, sym, ◌∙◌, ap}
use mathlib.Core.Bool.{Bool, true, false, ◌&&◌, not, and-false}
use Prim.Native.Nat.{ℕ}
use native.Mathlib.Omega.{arith}
use borrow.Author.Tests.{not-true, not-false}
use Rattle.pair.specs.Calls.{Outcome, is, refused, provided}
pub use Rattle.pair.proofs.Exponents.{by_cases}
pub use Rattle.pair.proofs.Numbers.{both}
pub use Rattle.pair.proofs.Ordered.{both_from}

pub first_fails : (a b : Bool) → a ≡ false → false ≡ (a && b)
first_fails a b h = sym (ap (λ (t : Bool). t && b) h)

pub second_fails : (a b : Bool) → b ≡ false → false ≡ (a && b)
second_fails a b h = sym (ap (λ (t : Bool). a && t) h ∙ and-false a)

pub first_holds : (a b c : Bool) → a ≡ true → c ≡ b → c ≡ (a && b)
first_holds a b c h e = e ∙ sym (ap (λ (t : Bool). t && b) h)

pub refused_as : {A : Type 0} (c : Bool) (x : Outcome A) → false ≡ c → refused 53 ≡ provided c x
unfolding provided
refused_as c x h = ap (λ (t : Bool). provided t x) h

pub told_as : {A : Type 0} (c : Bool) (x : Outcome A) → true ≡ c → x ≡ provided c x
unfolding provided
told_as c x h = ap (λ (t : Bool). provided t x) h

-- a test r of the condition d, as `if !r` has it
pub failed : {r d : Bool} → r ≡ d → not r ≡ true → d ≡ false
failed {r} e h = sym e ∙ not-true r h

pub passed : {r d : Bool} → r ≡ d → not r ≡ false → d ≡ true
passed {r} e h = sym e ∙ not-false r h

-- what an answered call tells of its condition, and what its condition tells
pub never : {A B : Type 0} {n : ℕ} {a : A} → ◌≡◌ {A = Outcome A} (refused n) (is a) → B
never e = let z : ◌≡◌ {A = ℕ} 0 1 = cc in absurd (omega arith)

pub provided_is : {A : Type 0} (t : Bool) (x : Outcome A) (r : A) → provided t x ≡ is r → (t ≡ true) × (x ≡ is r)
unfolding provided
provided_is true x r h = (refl, h)
provided_is false x r h = never h

pub provided_true : {A : Type 0} {t : Bool} (x : Outcome A) → t ≡ true → provided t x ≡ x
unfolding provided
provided_true x h = rw h
