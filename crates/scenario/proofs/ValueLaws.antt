-- What a call tells of a value however it is given. Assumes nothing.
use mathlib.Core.Path.{◌≡◌, refl, sym, ◌∙◌, ap}
use mathlib.Core.Bool.{true, false}
use mathlib.Mathlib.Data.Bool.Basic.{eq-false_of_not-eq-true}
use Prim.Native.Nat.{ℕ, ◌*◌, ◌≤◌}
use native.Mathlib.Omega.{arith}
use lib.IntN.{ℤ}
use Rattle.pair.specs.Number.{is_pair, zero, one}
use Rattle.pair.specs.Calls.{Outcome, is, refused, zero_pair, one_pair}
use Rattle.pair.proofs.Promises.{through, value_proper, ordered, zero_pair_lem, one_pair_lem}
use Rattle.times.specs.Times.{is_years}
use Rattle.cases.specs.declared.Value.{Value}
use Rattle.cases.specs.declared.Value.TheVariants.{Given}
use Rattle.cases.specs.Cases.{plain}
use Rattle.scenario.specs.Scenario.{of_value, otherwise, told, no_pair, no_time, is_refused}

module _ {A : Type 0} (f : ℕ → ℤ → Outcome A) (v : Value) (o : Outcome A) (first : o ≡ of_value f v) where
  pub told_given : (x : A) → o ≡ is x → o ≡ told f v
  unfolding told otherwise
  told_given x e = e ∙ ap (λ (y : Outcome A). otherwise y (of_value f (plain v))) (sym e ∙ first)

  pub told_plain : (n : ℕ) → o ≡ refused n → (w : Value) → w ≡ plain v → (p : Outcome A) → p ≡ of_value f w → p ≡ told f v
  unfolding told otherwise
  told_plain n e w same p h =
      h ∙ ap (of_value f) same ∙ ap (λ (y : Outcome A). otherwise y (of_value f (plain v))) (sym e ∙ first)

-- told of what is given, where the call tells it
pub told_is : {A : Type 0} (f : ℕ → ℤ → Outcome A) (power : ℤ) (digits : ℕ) (x : A) → f digits power ≡ is x → told f (Given power digits) ≡ is x
unfolding told otherwise of_value
told_is f power digits x e = rw e refl

-- whether it is refused
pub refused_is : {A : Type 0} (o : Outcome A) (n : ℕ) → o ≡ refused n → true ≡ is_refused o
unfolding is_refused
refused_is o n e = rw e refl

pub told_not : {A : Type 0} (o : Outcome A) (x : A) → o ≡ is x → false ≡ is_refused o
unfolding is_refused
told_not o x e = rw e refl

-- ---- what stands for no pair and for no time is none: every call refuses it
pub no_pair_lem : is_pair no_pair ≡ false
unfolding no_pair zero_pair one_pair
no_pair_lem = eq-false_of_not-eq-true (λ h. no_order (through (value_proper one) one_pair_lem.1.high (through (value_proper zero) (ordered no_pair h).rising zero_pair_lem.1.low)).across)
  where
    no_order : 1 * 1 ≤ 0 * 1 → ⊥
    no_order h = omega arith

pub no_time_lem : is_years no_time ≡ false
unfolding no_time is_years
no_time_lem = refl
