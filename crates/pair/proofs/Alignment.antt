-- Two working numbers counted in units of the lesser of their powers of ten: which exponent that is, and what the counts are.
-- Assumes nothing.
use mathlib.Core.Path.{◌≡◌, refl, sym, ◌∙◌, ap}
use mathlib.Core.Bool.{true, false, not}
use Prim.Native.Nat.{ℕ, ◌+◌, ◌*◌, ◌^◌, ◌≤◌, ◌<◌}
use native.Mathlib.Nat.{mul-le-mul_right, mul-lt-mul_of_pos_right, le_antisymm, mul-one, zero-mul, mul-pos, mul-le-mul, le_trans, mul_assoc}
use native.Mathlib.Omega.{arith}
use lib.Dec.{leb}
use lib.IntN.{ℤ, pos, negsuc, ◌+ℤ◌, sub_ℕ}
use lib.Signed.{mag, le_z, lt_z}
use borrow.Author.Tests.{leb-true, leb-false, le-leb, lt-leb}
use Rattle.pair.specs.declared.Number.{Number}
use Rattle.pair.specs.Number.{depth, place, lesser, rise, units_at, lower, at_most}
use Rattle.pair.proofs.Exponents.{by_cases, same_test, place_same, place_plus, place_raise, le_z_place, lt_z_le_z, le_z_of, rise_place, mag_plus, mag_sub}
use Rattle.pair.proofs.Powers.{ten_above, ten_rises, ten_add}
use Rattle.pair.proofs.Numbers.{Nine}

-- exponents small enough for every law here
pub record Small (e : ℤ) : Type 0 where
  pub small : mag e < 100010

below_depth : (n : ℕ) → n < 100010 → n < depth
unfolding depth
below_depth n h = omega arith

pub rise_of : {s e : ℤ} → Small s → Small e → place s ≤ place e → rise s e + place s ≡ place e
unfolding depth
rise_of {s} {e} p q h = rise_place s e (omega (arith, p.small, q.small)) h

pub same_place : {e f : ℤ} → Small e → Small f → place e ≡ place f → e ≡ f
same_place {e} {f} p q h = place_same e f (below_depth (mag e) p.small) (below_depth (mag f) q.small) h

le_place : {e f : ℤ} → Small e → Small f → le_z e f ≡ leb (place e) (place f)
le_place {e} {f} p q = le_z_place e f (below_depth (mag e) p.small) (below_depth (mag f) q.small)

-- what a test of two exponents says of their places
pub less_place : {e f : ℤ} → Small e → Small f → lt_z e f ≡ true → place e < place f
less_place {e} {f} p q h = leb-false (place f) (place e) (sym (le_place q p) ∙ le_z_of e f true h)

pub not_less_place : {e f : ℤ} → Small e → Small f → lt_z e f ≡ false → place f ≤ place e
not_less_place {e} {f} p q h = leb-true (place f) (place e) (sym (le_place q p) ∙ le_z_of e f false h)

pub less_turned : {e f : ℤ} → Small e → Small f → lt_z e f ≡ true → lt_z f e ≡ false
less_turned {e} {f} p q h = lt_z_le_z f e ∙ ap not (le_place p q ∙ le-leb (place e) (place f) (omega (arith, less_place p q h)))

-- the lesser exponent is the second where that lies no higher, and the first where that lies no higher
pub lesser_second : {e f : ℤ} → Small e → Small f → place f ≤ place e → lesser e f ≡ f
unfolding lesser
lesser_second {e} {f} p q h =
    by_cases (le_z e f)
    (λ t. rw t (same_place p q (le_antisymm (leb-true (place e) (place f) (sym (le_place p q) ∙ t)) h)))
    (λ t. rw t refl)

pub lesser_first : {e f : ℤ} → Small e → Small f → place e ≤ place f → lesser e f ≡ e
unfolding lesser
lesser_first {e} {f} p q h = rw (le_place p q ∙ le-leb (place e) (place f) h) refl

pub rise_none : {e : ℤ} → Small e → rise e e ≡ 0
rise_none {e} p = omega (arith, rise_of p p (omega arith))

-- a number counted in units of its own power of ten
pub units_own : (w : Number) → Small w.exponent → units_at w.exponent w ≡ w.significand
unfolding units_at
units_own w p = rw (rise_none p) (mul-one w.significand)

pub nine_small : {w : Number} → Nine w → Small w.exponent
nine_small n = record { small = omega (arith, n.reach) }

-- e + (k − i), read off the places
pub raised : {e f : ℤ} (k i : ℕ) → Small e → Small f → k + i < 600000 → place f + i ≡ place e + k → f ≡ e +ℤ sub_ℕ k i
unfolding depth
raised {e} {f} k i p q s h =
    place_same f (e +ℤ sub_ℕ k i)
    (omega (arith, q.small))
    (omega (arith, mag_plus e (sub_ℕ k i), mag_sub k i, p.small))
    (omega (arith, place_raise e k i (omega (arith, p.small))))

-- places differ by less than twice the reach
gap : (e f : ℤ) → mag e < 100010 → mag f < 100010 → place e < place f + 200020
unfolding depth place
gap (pos a) (pos b) p q = omega arith
gap (pos a) (negsuc b) p q = omega arith
gap (negsuc a) (pos b) p q = omega arith
gap (negsuc a) (negsuc b) p q = omega arith

pub place_gap : {e f : ℤ} → Small e → Small f → place e < place f + 200020
place_gap {e} {f} p q = gap e f p.small q.small

-- one more
pub place_next : {e : ℤ} → Small e → place (e +ℤ pos 1) ≡ place e + 1
unfolding depth place
place_next {e} p = omega (arith, place_plus e (pos 1) (omega (arith, p.small)))

-- the lesser exponent lies no higher than either
pub lesser_below : {e f : ℤ} → Small e → Small f → (Small (lesser e f)) × (place (lesser e f) ≤ place e) × (place (lesser e f) ≤ place f)
lesser_below {e} {f} p q =
    by_cases (leb (place e) (place f))
    (λ t. rw (lesser_first p q (leb-true (place e) (place f) t)) (p, omega arith, leb-true (place e) (place f) t))
    (λ t. let h : place f < place e = leb-false (place e) (place f) t in rw (lesser_second p q (omega arith)) (q, omega arith, omega arith))

-- a number counted at a lower exponent has ten figures or more
units_higher : (w : Number) (l : ℤ) → Nine w → Small l → place l < place w.exponent → 1000000000 ≤ units_at l w
unfolding units_at
units_higher w l n p h =
    mul-le-mul {n₁ = 100000000} {m₁ = 10} n.least (ten_rises {i = 1} (omega (arith, rise_of p (nine_small n) (omega arith))))

-- two numbers with one exponent are compared by their significands
pub order_level : (a b : Number) → Small a.exponent → a.exponent ≡ b.exponent → at_most a b ≡ leb a.significand b.significand
unfolding at_most lower units_at
order_level a b p h = rw (sym h, lesser_first p p (omega arith), rise_none p, mul-one a.significand, mul-one b.significand) refl

-- comparing two working numbers
module _ (a b : Number) (nine-a : Nine a) (nine-b : Nine b) where
  pub order_below : place a.exponent < place b.exponent → at_most a b ≡ true
  unfolding at_most lower
  order_below h =
      let p = nine_small nine-a in
      rw (lesser_first p (nine_small nine-b) (omega arith), units_own a p)
      (le-leb a.significand (units_at a.exponent b) (omega (arith, nine-a.most, units_higher b a.exponent nine-b p h)))

  pub order_above : place b.exponent < place a.exponent → at_most a b ≡ false
  unfolding at_most lower
  order_above h =
      let q = nine_small nine-b in
      rw (lesser_second (nine_small nine-a) q (omega arith), units_own b q)
      (lt-leb (units_at b.exponent a) b.significand (omega (arith, nine-b.most, units_higher a b.exponent nine-a q h)))

  pub order_same : place a.exponent ≡ place b.exponent → at_most a b ≡ leb a.significand b.significand
  order_same h = order_level a b (nine_small nine-a) (same_place (nine_small nine-a) (nine_small nine-b) h)

-- 0 is at most every number, and no other number is at most 0
pub units_none : (l : ℤ) (w : Number) → w.significand ≡ 0 → units_at l w ≡ 0
unfolding units_at
units_none l w h = ap (λ (m : ℕ). m * 10 ^ rise l w.exponent) h ∙ zero-mul (10 ^ rise l w.exponent)

pub order_zero_left : (a b : Number) → a.significand ≡ 0 → at_most a b ≡ true
unfolding at_most
order_zero_left a b h = le-leb (units_at (lower a b) a) (units_at (lower a b) b) (omega (arith, units_none (lower a b) a h))

pub order_zero_right : (a b : Number) → 0 < a.significand → b.significand ≡ 0 → at_most a b ≡ false
unfolding at_most units_at
order_zero_right a b p h =
    lt-leb (units_at (lower a b) a) (units_at (lower a b) b)
    (omega (arith, units_none (lower a b) b h, mul-pos p (ten_above (rise (lower a b) a.exponent))))

-- The order of two working numbers is that of their values in the least unit.
abbrev pub in_least : Number → ℕ
in_least w = w.significand * 10 ^ place w.exponent

pub units_scaled : (w : Number) (l : ℤ) → Small w.exponent → Small l → place l ≤ place w.exponent → units_at l w * 10 ^ place l ≡ in_least w
unfolding units_at
units_scaled w l p q h =
    mul_assoc w.significand (10 ^ rise l w.exponent) (10 ^ place l)
    ∙ ap (λ (x : ℕ). w.significand * x) (sym (ten_add (rise l w.exponent) (place l)) ∙ ap (λ (j : ℕ). 10 ^ j) (rise_of q p h))

pub order_scaled : (a b : Number) → Small a.exponent → Small b.exponent → at_most a b ≡ leb (in_least a) (in_least b)
unfolding at_most lower
order_scaled a b p q =
    let l = lesser a.exponent b.exponent in
    let s = lesser_below p q in
    let x : units_at l a * 10 ^ place l ≡ in_least a = units_scaled a l p s.0 s.1 in
    let y : units_at l b * 10 ^ place l ≡ in_least b = units_scaled b l q s.0 s.2 in
    same_test (units_at l a) (units_at l b) (in_least a) (in_least b)
    (λ h. omega (arith, mul-le-mul_right (10 ^ place l) h))
    (λ h. omega (arith, mul-lt-mul_of_pos_right h (ten_above (place l))))

pub order_trans : (a b c : Number) → Small a.exponent → Small b.exponent → Small c.exponent → at_most a b ≡ true → at_most b c ≡ true → at_most a c ≡ true
order_trans a b c p q r h k =
    order_scaled a c p r
    ∙ le-leb (in_least a) (in_least c)
    (le_trans (leb-true (in_least a) (in_least b) (sym (order_scaled a b p q) ∙ h)) (leb-true (in_least b) (in_least c) (sym (order_scaled b c q r) ∙ k)))
