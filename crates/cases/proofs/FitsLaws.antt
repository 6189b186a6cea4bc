-- What a value that fits its slot's rule gives the equations.
-- Assumes nothing.
use Prim.Native.Nat.{ℕ, ◌+◌, ◌*◌, ◌-◌, ◌^◌, ◌≤◌, ◌<◌}
use native.Mathlib.Nat.{le_trans, lt_of_not-le, le_of_suc-le-suc, mul-le-mul_right, eq-zero-or-pos}
use native.Mathlib.Omega.{arith}
use mathlib.Core.Path.{◌≡◌, refl, sym, ap, ◌∙◌}
use mathlib.Core.Logic.{⊎_elim}
use mathlib.Core.Bool.{Bool, true, false, cond, not, ◌&&◌, ◌||◌, true≢false, false≢true}
use borrow.Author.Tests.{eqb-false, eqb-true, leb-true}
use lib.Dec.{eqb}
use lib.IntN.{ℤ}
use Rattle.powers.specs.Powers.{above, below}
use Rattle.cases.specs.Ranges.{value_at_least, value_at_most, within_bounds, is_year, in_range}
use Rattle.cases.specs.Cases.{is_other_year}
use Rattle.cases.specs.Ranged.{Spelled, Fits}
use Rattle.slots.specs.declared.Rule.{Rule}
use Rattle.cases.specs.declared.Value.{Value}
use Rattle.cases.specs.declared.Value.TheVariants.{Absent, Given}
use Rattle.lists.proofs.Booleans.{both}
use Rattle.powers.proofs.PowerLaws.{tens}
use Rattle.cases.proofs.RangeLaws.{above_all, least_near}

-- ---- what a value in range gives the equations
module _ (rule : Rule) (digits : ℕ) (power : ℤ) where
  positive_if : (t : Bool) (s : Bool) → eqb digits 0 ≡ t → cond t rule.zero s ≡ true → rule.zero ≡ false → 0 < digits
  positive_if true s e h z = absurd (true≢false (sym h ∙ z))
  positive_if false s e h z = ⊎_elim (λ q. absurd (eqb-false digits 0 e q)) (λ p. p) (eq-zero-or-pos digits)

  -- both parts of a range: the bounds, and the year where one is asked
  range_parts : in_range rule digits power ≡ true → (within_bounds rule digits power ≡ true) × (cond rule.year (is_year digits power) true ≡ true)
  unfolding in_range
  range_parts h = both (within_bounds rule digits power) (cond rule.year (is_year digits power) true) h

  -- a value that may not be 0 is above it
  pub range_positive : in_range rule digits power ≡ true → rule.zero ≡ false → 0 < digits
  unfolding within_bounds
  range_positive h z = positive_if (eqb digits 0) (value_at_least digits power && value_at_most rule.most digits power) refl (range_parts h).0 z

  tests_if : (t : Bool) (s : Bool) → eqb digits 0 ≡ t → cond t rule.zero s ≡ true → 0 < digits → s ≡ true
  tests_if true s e h p = absurd (let z = eqb-true digits 0 e in omega arith)
  tests_if false s e h p = h

  range_tests : in_range rule digits power ≡ true → 0 < digits → (value_at_least digits power ≡ true) × (value_at_most rule.most digits power ≡ true)
  unfolding within_bounds
  range_tests h p =
      both (value_at_least digits power) (value_at_most rule.most digits power)
      (tests_if (eqb digits 0) (value_at_least digits power && value_at_most rule.most digits power) refl (range_parts h).0 p)

  module _ (ranged : in_range rule digits power ≡ true) where
    -- a value above 0 is at least 1E-20 and at most the rule's largest
    pub range_bounds : 0 < digits → (10 ^ below power ≤ digits * 10 ^ (above power + 20)) × (digits * 10 ^ above power ≤ rule.most * 10 ^ below power)
    unfolding value_at_least value_at_most
    range_bounds p =
        let t = range_tests ranged p in
        (leb-true (10 ^ below power) (digits * 10 ^ (above power + 20)) t.0, leb-true (digits * 10 ^ above power) (rule.most * 10 ^ below power) t.1)

    -- what bounds the rule's largest value bounds every value
    pub range_most : (c : ℕ) → rule.most ≤ c → digits * 10 ^ above power ≤ c * 10 ^ below power
    range_most c l =
        ⊎_elim (λ z. rw z (omega arith)) (λ p. le_trans (range_bounds p).1 (mul-le-mul_right (10 ^ below power) l)) (eq-zero-or-pos digits)

    module _ (some : 0 < digits) where
      -- eight digits that make 1E-20 or more end at 1E-27 or above
      fine_below : digits < 100000000 → below power ≤ 27
      fine_below d =
          le_of_suc-le-suc
          (lt_of_not-le
          (λ h.
          let t = tens 8 (below power - 20) (omega arith) in
          let b = leb-true (10 ^ (below power - 20)) digits (least_near digits power some (omega arith) (10 ^ (below power - 20)) refl ∙ (range_tests ranged some).0) in
          omega arith))

      -- the last digit of a printed value above 0 stands from 1E-27 to 1E+9
      pub finest : rule.most ≤ 1000000000 → Spelled digits power → (below power ≤ 27) × (above power ≤ 9)
      finest m s = (
        ⊎_elim (λ h. omega arith) fine_below s.fine,
        le_of_suc-le-suc
            (lt_of_not-le (λ h. false≢true (above_all rule.most digits power some (omega arith) h ∙ (range_tests ranged some).1))),
      )

-- a slot that allows neither blank nor - has a value
pub record HasValue (rule : Rule) (v : Value) : Type 0 where
  pub digits : ℕ
  pub power : ℤ
  pub given : v ≡ Given power digits
  pub ranged : in_range rule digits power ≡ true
  pub spelled : Spelled digits power

pub needed : (rule : Rule) (v : Value) → Fits rule v → rule.blank ≡ false → rule.dash ≡ false → HasValue rule v
needed rule Absent f b d = absurd (true≢false (sym f ∙ ap (λ (t : Bool). t || rule.blank) d ∙ b))
needed rule (Given power digits) f b d = record { digits = digits; power = power; given = refl; ranged = f.1; spelled = f.2 }

-- a value that fits a year's rule is no other year
pub year_right : (rule : Rule) (v : Value) → Fits rule v → rule.year ≡ true → is_other_year v ≡ false
unfolding is_other_year
year_right rule Absent f y = refl
year_right rule (Given power digits) f y =
    ap not (sym (ap (λ (t : Bool). cond t (is_year digits power) true) y) ∙ (range_parts rule digits power f.1).1)
