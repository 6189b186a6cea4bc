-- Signed powers of ten in the code: a difference of small numbers, and the parts of a power above and below 0. A signed local holds bits, so
-- a value arrives as `to_z w32 (of_z w32 z)`.
-- Assumes nothing.
use Prim.Native.Nat.{ℕ, zero, suc, ◌+◌, ◌-◌, ◌^◌, ◌<◌}
use native.Mathlib.Nat.{lt_of_lt_of_le, add-zero, sub-zero}
use native.Mathlib.Omega.{arith}
use mathlib.Core.Path.{◌≡◌, refl, sym, ap, ◌∙◌, subst, subst⁻¹}
use mathlib.Core.Bool.{Bool, true, false, cond, false≢true, true≢false}
use lib.Dec.{T, ltb, lit<, lit≤}
use lib.IntN.{ℤ, pos, negsuc, nat_abs, sub_ℕ, ◌+ℤ◌, ◌-ℤ◌}
use lib.Signed.{mag, lt_z, non_neg}
use mir.Syntax.{w32}
use mir.Val.{Fits, SFits, to_z, of_z}
use mir.Facts.{to_z-of_z, to_z_pos}
use borrow.Author.Tests.{lt-ltb, le-ltb, ltb-true, ltb-false}
use Rattle.powers.specs.Powers.{above, below}

-- ---- a difference of small numbers
minus : (a b : ℕ) → pos a -ℤ pos b ≡ sub_ℕ a b
minus a zero = ap pos (add-zero a ∙ sym (sub-zero a)) ∙ sym (ap (λ (t : Bool). cond t (negsuc (0 - suc a)) (pos (a - 0))) (le-ltb a 0 (omega arith)))
minus a (suc b) = refl

sub_fits : (a b : ℕ) → a < 1000 → b < 1000 → SFits w32 (sub_ℕ a b)
sub_fits a b p q = go (ltb a b) refl
  where
    go : (t : Bool) → ltb a b ≡ t → SFits w32 (sub_ℕ a b)
    go true e = record { sfits = subst⁻¹ (λ (t : Bool). mag (cond t (negsuc (b - suc a)) (pos (a - b))) < 2 ^ 31) e (omega arith) }
    go false e = record { sfits = subst⁻¹ (λ (t : Bool). mag (cond t (negsuc (b - suc a)) (pos (a - b))) < 2 ^ 31) e (omega arith) }

small : (a : ℕ) → a < 1000 → to_z w32 a ≡ pos a
small a p = to_z_pos w32 (lt_of_lt_of_le p (lit≤ tt))

bits_minus : (a b : ℕ) → a < 1000 → b < 1000 → to_z w32 a -ℤ to_z w32 b ≡ sub_ℕ a b
bits_minus a b p q = simp (small a p, small b q) (minus a b)

pub difference_fits : (a b : ℕ) → a < 1000 → b < 1000 → SFits w32 (to_z w32 a -ℤ to_z w32 b)
difference_fits a b p q = subst⁻¹ (SFits w32) (bits_minus a b p q) (sub_fits a b p q)

pub difference_is : (a b : ℕ) → a < 1000 → b < 1000 → to_z w32 (of_z w32 (to_z w32 a -ℤ to_z w32 b)) ≡ sub_ℕ a b
difference_is a b p q = to_z-of_z (difference_fits a b p q) ∙ bits_minus a b p q

-- ---- the parts above and below 0
module _ (z : ℤ) (f : SFits w32 z) where
  back : (P : ℤ → Type 0) → P z → P (to_z w32 (of_z w32 z))
  back P = subst⁻¹ P (to_z-of_z f)

  forth : (P : ℤ → Type 0) → P (to_z w32 (of_z w32 z)) → P z
  forth P = subst P (to_z-of_z f)

raise : (z : ℤ) → SFits w32 z → lt_z (pos 0) z ≡ true → T (non_neg z) × Fits w32 (nat_abs z)
raise (pos n) f h = (tt, record { fits = lt_of_lt_of_le f.sfits (lit≤ tt) })
raise (negsuc n) f h = absurd (false≢true h)

raise_is : (z : ℤ) → lt_z (pos 0) z ≡ true → nat_abs z ≡ above z
unfolding above
raise_is (pos n) h = refl
raise_is (negsuc n) h = absurd (false≢true h)

level : (z : ℤ) → lt_z (pos 0) z ≡ false → 0 ≡ above z
unfolding above
level (pos n) h = omega (arith, ltb-false 0 n h)
level (negsuc n) h = refl

module _ (z : ℤ) (f : SFits w32 z) where
  pub raised_cast : lt_z (pos 0) (to_z w32 (of_z w32 z)) ≡ true → T (non_neg (to_z w32 (of_z w32 z))) × Fits w32 (nat_abs (to_z w32 (of_z w32 z)))
  raised_cast h = back z f (λ y. T (non_neg y) × Fits w32 (nat_abs y)) (raise z f (forth z f (λ y. lt_z (pos 0) y ≡ true) h))

  pub raised_is : lt_z (pos 0) (to_z w32 (of_z w32 z)) ≡ true → nat_abs (to_z w32 (of_z w32 z)) ≡ above z
  raised_is h = back z f (λ y. nat_abs y ≡ above z) (raise_is z (forth z f (λ y. lt_z (pos 0) y ≡ true) h))

  pub not_raised : lt_z (pos 0) (to_z w32 (of_z w32 z)) ≡ false → 0 ≡ above z
  not_raised h = level z (forth z f (λ y. lt_z (pos 0) y ≡ false) h)

-- 0 - (z + 1), for a z below 0, is one short of how far z lies below
turned : (n : ℕ) → pos 0 -ℤ sub_ℕ 1 (suc n) ≡ pos n
turned zero = refl
turned (suc n) =
    ap (λ (t : Bool). pos 0 -ℤ cond t (negsuc (suc (suc n) - 2)) (pos (1 - suc (suc n)))) (lt-ltb 1 (suc (suc n)) (omega arith)) ∙ ap pos (omega arith)

climb_fits : (n : ℕ) → n < 2 ^ 31 → SFits w32 (sub_ℕ 1 (suc n))
climb_fits zero h = record { sfits = lit< tt }
climb_fits (suc n) h =
    record { sfits = subst⁻¹ (λ (t : Bool). mag (cond t (negsuc (suc (suc n) - 2)) (pos (1 - suc (suc n)))) < 2 ^ 31) (lt-ltb 1 (suc (suc n)) (omega arith)) (omega arith) }

-- the facts that the code asks on the way, of a z below 0
pub record Lowered (z : ℤ) : Type 0 where
  pub add : SFits w32 (to_z w32 (of_z w32 z) +ℤ pos 1)
  pub sub : SFits w32 (pos 0 -ℤ to_z w32 (of_z w32 (to_z w32 (of_z w32 z) +ℤ pos 1)))
  pub far : ℕ
  pub small : far < 2 ^ 31
  pub reads : to_z w32 (of_z w32 (pos 0 -ℤ to_z w32 (of_z w32 (to_z w32 (of_z w32 z) +ℤ pos 1)))) ≡ pos far
  pub is : far + 1 ≡ below z

lowered_neg : (n : ℕ) → SFits w32 (negsuc n) → Lowered (negsuc n)
unfolding below
lowered_neg n f =
    let up : to_z w32 (of_z w32 (negsuc n)) +ℤ pos 1 ≡ sub_ℕ 1 (suc n) = ap (λ (z : ℤ). z +ℤ pos 1) (to_z-of_z f) in
    let fits : SFits w32 (to_z w32 (of_z w32 (negsuc n)) +ℤ pos 1) = subst⁻¹ (SFits w32) up (climb_fits n f.sfits) in
    let down : pos 0 -ℤ to_z w32 (of_z w32 (to_z w32 (of_z w32 (negsuc n)) +ℤ pos 1)) ≡ pos n =
    ap (λ (z : ℤ). pos 0 -ℤ z) (to_z-of_z fits ∙ up) ∙ turned n in
    let far : SFits w32 (pos 0 -ℤ to_z w32 (of_z w32 (to_z w32 (of_z w32 (negsuc n)) +ℤ pos 1))) = subst⁻¹ (SFits w32) down (record { sfits = f.sfits }) in
    record { add = fits; sub = far; far = n; small = f.sfits; reads = to_z-of_z far ∙ down; is = omega arith }

below_zero : (z : ℤ) → SFits w32 z → lt_z z (pos 0) ≡ true → Lowered z
below_zero (pos n) f h = absurd (let l = ltb-true n 0 h in omega arith)
below_zero (negsuc n) f h = lowered_neg n f

flat : (z : ℤ) → lt_z z (pos 0) ≡ false → 0 ≡ below z
unfolding below
flat (pos n) h = refl
flat (negsuc n) h = absurd (true≢false h)

pub cast_of : {z : ℤ} (n : ℕ) → n < 2 ^ 31 → z ≡ pos n → T (non_neg z) × Fits w32 (nat_abs z)
cast_of n h e = subst⁻¹ (λ (z : ℤ). T (non_neg z) × Fits w32 (nat_abs z)) e (tt, record { fits = lt_of_lt_of_le h (lit≤ tt) })

module _ (z : ℤ) (f : SFits w32 z) where
  pub lowered_facts : lt_z (to_z w32 (of_z w32 z)) (pos 0) ≡ true → Lowered z
  lowered_facts h = below_zero z f (forth z f (λ y. lt_z y (pos 0) ≡ true) h)

  pub not_lowered : lt_z (to_z w32 (of_z w32 z)) (pos 0) ≡ false → 0 ≡ below z
  not_lowered h = flat z (forth z f (λ y. lt_z y (pos 0) ≡ false) h)
