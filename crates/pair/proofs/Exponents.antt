-- Signed exponents as whole numbers: `place` counts an exponent from −depth, and sums, differences, order and rise become those of
-- whole numbers, which omega reads. Assumes nothing.
use mathlib.Core.Path.{◌≡◌, refl, sym, ◌∙◌, ap}
use mathlib.Core.Bool.{Bool, true, false, not, true≢false, not-not}
use Prim.Native.Nat.{ℕ, zero, suc, ◌+◌, ◌≤◌, ◌<◌}
use native.Mathlib.Omega.{arith}
use lib.Dec.{leb, ltb}
use lib.IntN.{ℤ, pos, negsuc, neg_ℤ, ◌+ℤ◌, ◌-ℤ◌, sub_ℕ, nat_abs}
use lib.Signed.{mag, le_z, lt_z}
use borrow.Author.Tests.{ltb-true, ltb-false, le-ltb, le-leb, lt-leb}
use Rattle.std.proofs.Common.{int_cmp, is_le}
use Rattle.pair.specs.Number.{depth, place, rise}

-- a case distinction that keeps the test's equation
pub by_cases : {A : Type 0} (t : Bool) → (t ≡ true → A) → (t ≡ false → A) → A
by_cases true f g = f refl
by_cases false f g = g refl

-- two tests agree where each holds when the other does
pub same_test : (a b : ℕ) (c d : ℕ) → (a ≤ b → c ≤ d) → (b < a → d < c) → leb a b ≡ leb c d
same_test a b c d f g = by_cases (ltb b a) (λ t. lt-leb a b (ltb-true b a t) ∙ sym (lt-leb c d (g (ltb-true b a t)))) (λ t. le-leb a b (ltb-false b a t) ∙ sym (le-leb c d (f (ltb-false b a t))))

pub place_sub : (a b : ℕ) → b ≤ depth → place (sub_ℕ a b) + b ≡ depth + a
unfolding depth place
place_sub a b h = by_cases (ltb a b) less more
  where
    less : ltb a b ≡ true → place (sub_ℕ a b) + b ≡ depth + a
    less t = let l : a < b = ltb-true a b t in rw t (omega arith)

    more : ltb a b ≡ false → place (sub_ℕ a b) + b ≡ depth + a
    more t = let l : b ≤ a = ltb-false a b t in rw t (omega arith)

pub place_plus : (e f : ℤ) → mag e + mag f + 2 ≤ depth → place (e +ℤ f) + depth ≡ place e + place f
unfolding depth place
place_plus (pos a) (pos b) h = omega arith
place_plus (pos a) (negsuc b) h = omega (arith, place_sub a (suc b) (omega arith))
place_plus (negsuc a) (pos b) h = omega (arith, place_sub b (suc a) (omega arith))
place_plus (negsuc a) (negsuc b) h = omega arith

place_neg : (e : ℤ) → mag e < depth → place (neg_ℤ e) + place e ≡ depth + depth
unfolding depth place
place_neg (pos zero) h = refl
place_neg (pos (suc n)) h = omega arith
place_neg (negsuc n) h = omega arith

mag_neg : (e : ℤ) → mag (neg_ℤ e) ≤ mag e + 1
mag_neg (pos zero) = omega arith
mag_neg (pos (suc n)) = omega arith
mag_neg (negsuc n) = omega arith

pub mag_sub : (a b : ℕ) → mag (sub_ℕ a b) ≤ a + b
mag_sub a b =
    by_cases (ltb a b)
    (λ t. let l : a < b = ltb-true a b t in rw t (omega arith))
    (λ t. let l : b ≤ a = ltb-false a b t in rw t (omega arith))

pub mag_plus : (e f : ℤ) → mag (e +ℤ f) ≤ mag e + mag f + 1
mag_plus (pos a) (pos b) = omega arith
mag_plus (pos a) (negsuc b) = omega (arith, mag_sub a (suc b))
mag_plus (negsuc a) (pos b) = omega (arith, mag_sub b (suc a))
mag_plus (negsuc a) (negsuc b) = omega arith

pub mag_minus : (e f : ℤ) → mag (e -ℤ f) ≤ mag e + mag f + 2
mag_minus e f = omega (arith, mag_plus e (neg_ℤ f), mag_neg f)

pub place_minus : (e f : ℤ) → mag e + mag f + 3 ≤ depth → place (e -ℤ f) + place f ≡ place e + depth
place_minus e f h =
    omega (arith, place_plus e (neg_ℤ f) (omega (arith, mag_neg f)), place_neg f (omega arith))

-- e + (k − j)
pub place_raise : (e : ℤ) (k j : ℕ) → mag e + k + j + 3 ≤ depth → place (e +ℤ sub_ℕ k j) + j ≡ place e + k
place_raise e k j h =
    omega (arith, place_plus e (sub_ℕ k j) (omega (arith, mag_sub k j)), place_sub k j (omega arith))

pub place_same : (e f : ℤ) → mag e < depth → mag f < depth → place e ≡ place f → e ≡ f
unfolding depth place
place_same (pos a) (pos b) h k p = ap pos (omega arith)
place_same (pos a) (negsuc b) h k p = absurd (omega arith)
place_same (negsuc a) (pos b) h k p = absurd (omega arith)
place_same (negsuc a) (negsuc b) h k p = ap negsuc (omega arith)

-- taking j away is adding k − i where k + j is i
pub lowered : (e : ℤ) (j k i : ℕ) → k + j ≡ i → mag e + i + i + 9 ≤ depth → e -ℤ pos j ≡ e +ℤ sub_ℕ k i
unfolding depth place
lowered e j k i s h =
    place_same (e -ℤ pos j) (e +ℤ sub_ℕ k i)
    (omega (arith, mag_minus e (pos j)))
    (omega (arith, mag_plus e (sub_ℕ k i), mag_sub k i))
    (omega (arith, place_minus e (pos j) (omega arith), place_raise e k i (omega arith)))

pub le_z_place : (e f : ℤ) → mag e < depth → mag f < depth → le_z e f ≡ leb (place e) (place f)
unfolding depth place
le_z_place (pos a) (pos b) h k = same_test a b (place (pos a)) (place (pos b)) (λ l. omega arith) (λ l. omega arith)
le_z_place (pos a) (negsuc b) h k = sym (lt-leb (place (pos a)) (place (negsuc b)) (omega arith))
le_z_place (negsuc a) (pos b) h k = sym (le-leb (place (negsuc a)) (place (pos b)) (omega arith))
le_z_place (negsuc a) (negsuc b) h k = same_test b a (place (negsuc a)) (place (negsuc b)) (λ l. omega arith) (λ l. omega arith)

pub lt_z_le_z : (e f : ℤ) → lt_z e f ≡ not (le_z f e)
lt_z_le_z (pos a) (pos b) = by_cases (ltb a b) (λ t. t ∙ ap not (sym (lt-leb b a (ltb-true a b t)))) (λ t. t ∙ ap not (sym (le-leb b a (ltb-false a b t))))
lt_z_le_z (pos a) (negsuc b) = refl
lt_z_le_z (negsuc a) (pos b) = refl
lt_z_le_z (negsuc a) (negsuc b) = by_cases (ltb b a) (λ t. t ∙ ap not (sym (lt-leb a b (ltb-true b a t)))) (λ t. t ∙ ap not (sym (le-leb a b (ltb-false b a t))))

nat_abs_place : (z : ℤ) → depth ≤ place z → nat_abs z + depth ≡ place z
unfolding depth place
nat_abs_place (pos n) h = omega arith
nat_abs_place (negsuc n) h = absurd (omega arith)

pub rise_place : (s e : ℤ) → mag e + mag s + 3 ≤ depth → place s ≤ place e → rise s e + place s ≡ place e
unfolding rise
rise_place s e h l =
    omega (arith, nat_abs_place (e -ℤ s) (omega (arith, place_minus e s h)), place_minus e s h)

pub le_z_of : (e f : ℤ) (t : Bool) → lt_z e f ≡ t → le_z f e ≡ not t
le_z_of e f t h = sym (not-not (le_z f e)) ∙ ap not (sym (lt_z_le_z e f) ∙ h)

below_one_way : (a b : ℤ) → lt_z b a ≡ true → lt_z a b ≡ false
below_one_way (pos a) (pos b) h = le-ltb a b (omega (arith, ltb-true b a h))
below_one_way (pos a) (negsuc b) h = refl
below_one_way (negsuc a) (pos b) h = absurd (true≢false (sym h))
below_one_way (negsuc a) (negsuc b) h = le-ltb b a (omega (arith, ltb-true a b h))

-- the order of the i32 as the library's ranges have it
pub compared_le : (a b : ℤ) → is_le (int_cmp a b) ≡ le_z a b
compared_le a b =
    by_cases (lt_z b a)
    (λ t. rw (below_one_way a b t, t, le_z_of b a true t) refl)
    (λ t. rw (t, le_z_of b a false t) (by_cases (lt_z a b) (λ u. rw u refl) (λ u. rw u refl)))
