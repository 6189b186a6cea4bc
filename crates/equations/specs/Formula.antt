-- A formula is written once and read twice: on pairs by the working rule, and on exact fractions.
use Rattle.std.specs.Prelude.{ℕ, ℤ}
use Rattle.pair.specs.declared.Pair.{Pair}
use Rattle.pair.specs.Fraction as exact
use Rattle.pair.specs.Fraction.{Fraction}
use Rattle.pair.specs.Calls.{Outcome, after, entry, sum, product, quotient}
use Rattle.pair.specs.Promises.{scaled}
use Rattle.slots.specs.Slots.{Slot}

-- A letter stands for the value of a slot, for 1 less that value, for T2 − tD, for g and h at x, or for g at k × (T2 − tD).
pub data Letter : Type 0 where
  slot : Slot → Letter
  rest : Slot → Letter
  later : Letter
  g_at_x h_at_x g_at_x' : Letter

-- The written operations: ⊕, ⊗ and ⊘ are document 01's +, × and /.
infixl 65 ◌⊕◌
infixl 70 ◌⊗◌
infixl 70 ◌⊘◌
pub data Formula : Type 0 where
  letter : Letter → Formula
  constant : ℕ → ℤ → Formula
  ◌⊕◌ ◌⊗◌ ◌⊘◌ : Formula → Formula → Formula

-- 1 less a slot's value, and T2 − tD: the only subtractions in a formula. Each is taken from what is printed, so it is a letter and no operation.
abbrev pub 1− : Slot → Formula
1− s = letter (rest s)

abbrev pub T2−tD : Formula
T2−tD = letter later

-- What a reading makes of the operations.
pub record Algebra (A : Type 0) : Type 1 where
  pub number : ℕ → ℤ → A
  pub plus : A → A → A
  pub times : A → A → A
  pub over : A → A → A

unfoldable pub read : {A : Type 0} → Algebra A → (Letter → A) → Formula → A
read alg env (letter l) = env l
read alg env (constant m e) = alg.number m e
read alg env (f ⊕ g) = alg.plus (read alg env f) (read alg env g)
read alg env (f ⊗ g) = alg.times (read alg env f) (read alg env g)
read alg env (f ⊘ g) = alg.over (read alg env f) (read alg env g)

-- On pairs: each operation by the working rule, a refusal carried along.
unfoldable pub pairs : Algebra (Outcome Pair)
pairs = record { number = entry; plus = after sum; times = after product; over = after quotient }

-- On exact fractions: m × 10^e and the operations, unrounded.
unfoldable pub fractions : Algebra Fraction
fractions = record { number = scaled; plus = exact.plus; times = exact.times; over = exact.over }
