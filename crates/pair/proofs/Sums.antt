-- Sums of two working numbers, aligned at the lesser exponent. Assumes nothing.
use mathlib.Core.Path.{◌≡◌, refl, sym, ◌∙◌, ap, subst}
use mathlib.Core.Bool.{Bool, true, false}
use Prim.Native.Nat.{ℕ, ◌+◌, ◌*◌, ◌^◌, ◌≤◌, ◌<◌}
use mathlib.Core.Logic.{⊎_elim}
use native.Mathlib.Nat.{eq-zero-or-pos, add_comm, zero-add, mul-le-mul_right, add-zero}
use native.Mathlib.Omega.{arith}
use lib.Dec.{lit<, lit≤, ltb}
use lib.IntN.{ℤ, pos, ◌+ℤ◌}
use lib.Signed.{mag}
use borrow.Author.Tests.{ltb-true, ltb-false}
use Rattle.pair.specs.declared.Number.{Number}
use Rattle.pair.specs.Number as specs
use Rattle.pair.specs.Number.{place, lesser, rise, units_at, lower, is_number}
use Rattle.pair.specs.Rounding.{extra, divided, carried, rounded, sum_end}
use Rattle.pair.proofs.Alignment.{Small, rise_of, lesser_second, lesser_first, units_own, nine_small, raised, place_gap, place_next, lesser_below, units_none}
use Rattle.pair.proofs.Dividing.{divided_one, divided_more}
use Rattle.pair.proofs.Exponents.{by_cases, mag_plus}
use Rattle.pair.proofs.Numbers.{Nine, number_zero, number_nine}
use Rattle.pair.proofs.Powers.{ten_above, ten_add}
use Rattle.pair.proofs.Rounds.{rounded_off, rounded_exact, rounded_again, beyond_nine}

pub next_small : (e : ℤ) → mag e < 100000 → Small (e +ℤ pos 1)
next_small e h = record { small = omega (arith, mag_plus e (pos 1)) }

carry_tenth : (up : Bool) (e : ℤ) → carried (divided up 1000000000 10) (e +ℤ pos 1) ≡ carried 1000000000 e
unfolding carried divided extra
carry_tenth false e = refl
carry_tenth true e = refl

-- nine figures, or ten of them as a carry
pub nine_kept : (up : Bool) (m : ℕ) (e : ℤ) → mag e < 100000 → 100000000 ≤ m → m ≤ 1000000000 → rounded up m 1 e ≡ carried m e
nine_kept up m e reach least most =
    by_cases (ltb m 1000000000)
    (λ t.
    sym (rounded_off up m 0 e e (omega arith) (omega (arith, ltb-true m 1000000000 t)) (raised 9 9 small small (lit< tt) refl))
    ∙ ap (λ (q : ℕ). carried q e) (divided_one up m))
    (λ t.
    subst (λ (x : ℕ). rounded up x 1 e ≡ carried x e) (omega (arith, ltb-false m 1000000000 t))
    (sym (rounded_off up 1000000000 1 e (e +ℤ pos 1) (lit≤ tt) (lit< tt) (raised 10 9 small (next_small e reach) (lit< tt) (omega (arith, place_next small)))) ∙ carry_tenth up e))
  where
    small : Small e
    small = record { small = omega arith }

-- to round at a place and then to nine figures, in one direction, is to round once: t units of l, at a place g higher
pub rounded_twice : (up : Bool) (t g : ℕ) (l e : ℤ) → Small l → mag e < 100000 → place l + g ≡ place e → 100000000 * 10 ^ g ≤ t →
    rounded up (divided up t (10 ^ g)) 1 e ≡ rounded up t 1 l
rounded_twice up t g l e small reach apart least =
    let small' : Small e = record { small = omega arith } in
    ap (rounded up (divided up t (10 ^ g)) 1)
    (raised (g + 9) 9 small small' (omega (arith, place_gap small' small)) (omega arith) ∙ ap (λ (z : ℤ). l +ℤ z) (sym (beyond_nine g)))
    ∙ rounded_again up t g l least

-- the sum at the lower of the two exponents
module _ (up : Bool) (a b : Number) (nine-a : Nine a) (nine-b : Nine b) (ordered : place b.exponent ≤ place a.exponent) where
  pub sum_ordered : sum_end up a b ≡ rounded up (a.significand * 10 ^ rise b.exponent a.exponent + b.significand) 1 b.exponent
  unfolding sum_end lower units_at
  sum_ordered =
      rw (lesser_second (nine_small nine-a) (nine_small nine-b) ordered)
      (ap (λ (x : ℕ). rounded up (a.significand * 10 ^ rise b.exponent a.exponent + x) 1 b.exponent) (units_own b (nine_small nine-b)))

  -- as the code does it
  pub sum_rounded : rounded up (a.significand + divided up b.significand (10 ^ rise b.exponent a.exponent)) 1 a.exponent ≡ sum_end up a b
  sum_rounded =
      let g = rise b.exponent a.exponent in
      ap (λ (s : ℕ). rounded up s 1 a.exponent) (sym (divided_more up a.significand b.significand (10 ^ g) (ten_above g)))
      ∙ rounded_twice up (a.significand * 10 ^ g + b.significand) g b.exponent a.exponent (nine_small nine-b) nine-a.reach
      (omega (arith, rise_of (nine_small nine-b) (nine_small nine-a) ordered))
      (omega (arith, mul-le-mul_right (10 ^ g) nine-a.least))
      ∙ sym sum_ordered

-- a sum does not depend on the order of its operands
pub sum_comm : (up : Bool) (a b : Number) → Nine a → Nine b → place a.exponent < place b.exponent → sum_end up b a ≡ sum_end up a b
unfolding sum_end lower
sum_comm up a b nine-a nine-b h =
    rw (
      lesser_second (nine_small nine-b) (nine_small nine-a) (omega arith),
      lesser_first (nine_small nine-a) (nine_small nine-b) (omega arith),
      add_comm (units_at a.exponent b) (units_at a.exponent a),
    ) refl

-- a number counted at a lower exponent is itself again
exact_again : (up : Bool) (w : Number) (l : ℤ) → Nine w → Small l → place l ≤ place w.exponent → w ≡ rounded up (units_at l w) 1 l
unfolding units_at
exact_again up w l n small h =
    let g = rise l w.exponent in
    let r : g + place l ≡ place w.exponent = rise_of small (nine_small n) h in
    rounded_exact up (w.significand * 10 ^ g) w.significand (g + 9) l w.exponent
    (rw (ten_add g 9) (omega arith)) n.least n.most
    (raised (g + 9) 9 small (nine_small n) (omega (arith, place_gap (nine_small n) small)) (omega arith))

-- a sum with 0
zero_small : Small (specs.zero).exponent
unfolding specs.zero
zero_small = record { small = lit< tt }

zero_units : (l : ℤ) → units_at l specs.zero ≡ 0
unfolding specs.zero
zero_units l = units_none l specs.zero refl

sum_with_zero : (up : Bool) (b : Number) → is_number b ≡ true → b ≡ sum_end up specs.zero b
unfolding sum_end lower rounded
sum_with_zero up b h =
    ⊎_elim
    (λ p. rw (number_zero b h p, zero_units (lesser (specs.zero).exponent (specs.zero).exponent)) refl)
    (λ p.
    let n : Nine b = number_nine b h p in
    let s = lesser_below zero_small (nine_small n) in
    let l = lesser (specs.zero).exponent b.exponent in
    rw (zero_units l, zero-add (units_at l b)) (exact_again up b l n s.0 s.2))
    (eq-zero-or-pos b.significand)

pub sum_zero_left : (up : Bool) (a b : Number) → is_number a ≡ true → a.significand ≡ 0 → is_number b ≡ true → b ≡ sum_end up a b
sum_zero_left up a b k z h = subst (λ (w : Number). b ≡ sum_end up w b) (sym (number_zero a k z)) (sum_with_zero up b h)

pub sum_zero_right : (up : Bool) (a b : Number) → is_number a ≡ true → 0 < a.significand → is_number b ≡ true → b.significand ≡ 0 → a ≡ sum_end up a b
unfolding sum_end lower
sum_zero_right up a b h p k z =
    let n : Nine a = number_nine a h p in
    let s = lesser_below (nine_small n) zero_small in
    let l = lesser a.exponent (specs.zero).exponent in
    rw (number_zero b k z, zero_units l, add-zero (units_at l a)) (exact_again up a l n s.0 s.1)
