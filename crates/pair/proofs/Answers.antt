-- What a call's answer tells of its operands and its ends: the one form that the three operations share, and what a pair is.
-- Assumes nothing.
use mathlib.Core.Path.{◌≡◌, refl, sym, ◌∙◌, ap}
use mathlib.Core.Bool.{Bool, true, false, ◌&&◌, not, and-true, true≢false}
use mathlib.Core.Logic.{⊎_elim}
use Prim.Native.Nat.{◌<◌}
use native.Mathlib.Nat.{eq-zero-or-pos, mul-pos, lt_of_mul-lt-mul_right}
use native.Mathlib.Omega.{arith}
use borrow.Author.Tests.{not-true}
use Rattle.pair.specs.declared.Number.{Number}
use Rattle.pair.specs.declared.Pair.{Pair}
use Rattle.pair.specs.Fraction.{Fraction, Proper, ◌≤ᶠ◌}
use Rattle.pair.specs.Number as N
use Rattle.pair.specs.Number.{in_reach, is_zero, is_number, is_pair, at_most, value, place}
use Rattle.pair.specs.Rounding.{sum_end, product_end, quotient_end}
use Rattle.pair.specs.Calls.{is, provided, ends, sum, product, quotient}
use Rattle.pair.specs.Promises.{Operation, sums, products, quotients, call, with_low, with_high, Holds}
use Rattle.pair.proofs.Exponents.{by_cases}
use Rattle.pair.proofs.Powers.{ten_above}
use Rattle.pair.proofs.Fractions.{Usable, Along}
use Rattle.pair.proofs.Numbers.{both, zero_is, none_is_zero}
pub use Rattle.pair.proofs.Providing.{provided_is, provided_true}
use Rattle.pair.proofs.Ordered.{both_from, at_most_lem, value_proper}
use Rattle.pair.proofs.ExactEnds.{top, bottom, power, end_of}

abbrev pub pair : Number → Number → Pair
pair a b = record { low = a; high = b }

pub ends_are : (a b : Number) (r : Pair) → ends a b ≡ is r → (in_reach a.exponent ≡ true) × (in_reach b.exponent ≡ true) × (r ≡ pair a b)
unfolding ends
ends_are a b r h =
    let t = provided_is (in_reach a.exponent && in_reach b.exponent) (is (pair a b)) r h in
    let s = both (in_reach a.exponent) (in_reach b.exponent) t.0 in
    let e : is r ≡ is (pair a b) = sym t.1 in
    (s.0, s.1, (cc))

pub ends_from : (a b : Number) → in_reach a.exponent ≡ true → in_reach b.exponent ≡ true → ends a b ≡ is (pair a b)
unfolding ends
ends_from a b p q = provided_true (is (pair a b)) (both_from p q)

-- a pair: two working numbers, low at most high
pub record Ordered (p : Pair) : Type 0 where
  pub low : is_number p.low ≡ true
  pub high : is_number p.high ≡ true
  pub rising : value p.low ≤ᶠ value p.high

pub ordered : (p : Pair) → is_pair p ≡ true → Ordered p
unfolding is_pair
ordered p h =
    let s = both (is_number p.low) (is_number p.high && at_most p.low p.high) h in
    let t = both (is_number p.high) (at_most p.low p.high) s.1 in
    record { low = s.0; high = t.0; rising = (at_most_lem p.low p.high s.0 t.0).0 t.1 }

pub pair_from_lem : (p : Pair) → Ordered p → is_pair p ≡ true
unfolding is_pair
pair_from_lem p o = both_from o.low (both_from o.high ((at_most_lem p.low p.high o.low o.high).1 o.rising))

-- a quotient's divisor must have a low end above 0
fits : Operation → Pair → Bool
fits sums q = true
fits products q = true
fits quotients q = not (is_zero q.low)

-- the form that the three operations share
call_is : (o : Operation) (p q : Pair) →
    call o p q ≡ provided (is_pair p && (is_pair q && fits o q)) (ends (end_of o false p.low (with_low o q)) (end_of o true p.high (with_high o q)))
unfolding call sum product quotient fits end_of top bottom power sum_end product_end quotient_end with_low with_high
call_is sums p q = ap (λ (t : Bool). provided (is_pair p && t) (ends (end_of sums false p.low q.low) (end_of sums true p.high q.high))) (sym (and-true (is_pair q)))
call_is products p q = ap (λ (t : Bool). provided (is_pair p && t) (ends (end_of products false p.low q.low) (end_of products true p.high q.high))) (sym (and-true (is_pair q)))
call_is quotients p q = refl

-- A number that is 0 has the value 0, and any other a value above 0.
pub zero_means : (w : Number) → is_zero w ≡ true → (value w).num ≡ 0
unfolding value N.zero
zero_means w h = rw (zero_is w h) (omega arith)

pub zero_not : (w : Number) → is_number w ≡ true → is_zero w ≡ false → 0 < (value w).num
unfolding value
zero_not w n h =
    ⊎_elim (λ z. absurd (true≢false (sym (none_is_zero w n z) ∙ h))) (λ p. mul-pos p (ten_above (place w.exponent))) (eq-zero-or-pos w.significand)

fits_usable : (o : Operation) (q : Pair) → is_number q.low ≡ true → fits o q ≡ true → Usable o (value q.low)
unfolding fits Usable
fits_usable sums q n h = tt
fits_usable products q n h = tt
fits_usable quotients q n h = zero_not q.low n (not-true (is_zero q.low) h)

usable_fits : (o : Operation) (q : Pair) → Usable o (value q.low) → fits o q ≡ true
unfolding fits Usable
usable_fits sums q h = refl
usable_fits products q h = refl
usable_fits quotients q h = by_cases (is_zero q.low) (λ t. absurd (omega (arith, zero_means q.low t))) (λ t. ap not t)

-- what is at least a divisor may divide too
pub usable_on : (o : Operation) {y y' : Fraction} → Proper y' → Usable o y → y ≤ᶠ y' → Usable o y'
unfolding Usable
usable_on sums p u h = tt
usable_on products p u h = tt
usable_on quotients {y} {y'} p u h = lt_of_mul-lt-mul_right y.den {m = 0} (omega (arith, mul-pos u p.above_zero, h.across))

-- what an answer tells
pub record Answered (o : Operation) (p q r : Pair) : Type 0 where
  pub first : is_pair p ≡ true
  pub second : is_pair q ≡ true
  pub usable : Usable o (value q.low)
  pub low_reach : in_reach (end_of o false p.low (with_low o q)).exponent ≡ true
  pub high_reach : in_reach (end_of o true p.high (with_high o q)).exponent ≡ true
  pub ends_is : r ≡ pair (end_of o false p.low (with_low o q)) (end_of o true p.high (with_high o q))

pub told : (o : Operation) (p q r : Pair) → call o p q ≡ is r → Answered o p q r
told o p q r h =
    let low : Number = end_of o false p.low (with_low o q) in
    let high : Number = end_of o true p.high (with_high o q) in
    let t = provided_is (is_pair p && (is_pair q && fits o q)) (ends low high) r (sym (call_is o p q) ∙ h) in
    let a = both (is_pair p) (is_pair q && fits o q) t.0 in
    let b = both (is_pair q) (fits o q) a.1 in
    let e = ends_are low high r t.1 in
    record {
      first = a.0;
      second = b.0;
      usable = fits_usable o q (ordered q b.0).low b.1;
      low_reach = e.0;
      high_reach = e.1;
      ends_is = e.2;
    }

pub answers : (o : Operation) (p q : Pair) → is_pair p ≡ true → is_pair q ≡ true → Usable o (value q.low) →
    in_reach (end_of o false p.low (with_low o q)).exponent ≡ true → in_reach (end_of o true p.high (with_high o q)).exponent ≡ true →
    call o p q ≡ is (pair (end_of o false p.low (with_low o q)) (end_of o true p.high (with_high o q)))
answers o p q a b u l h =
    call_is o p q
    ∙ provided_true (ends (end_of o false p.low (with_low o q)) (end_of o true p.high (with_high o q))) (both_from a (both_from b (usable_fits o q u)))
    ∙ ends_from (end_of o false p.low (with_low o q)) (end_of o true p.high (with_high o q)) l h

-- the second operand's two ends, as the operation takes them
pub record Operand (o : Operation) (q : Pair) : Type 0 where
  pub low_number : is_number (with_low o q) ≡ true
  pub high_number : is_number (with_high o q) ≡ true
  pub low_usable : Usable o (value (with_low o q))
  pub high_usable : Usable o (value (with_high o q))
  pub along : Along o (value (with_low o q)) (value (with_high o q))

pub operand : (o : Operation) (q : Pair) → Ordered q → Usable o (value q.low) → Operand o q
unfolding with_low with_high Along
operand sums q p u =
    record {
      low_number = p.low;
      high_number = p.high;
      low_usable = u;
      high_usable = usable_on sums (value_proper q.high) u p.rising;
      along = p.rising;
    }
operand products q p u =
    record {
      low_number = p.low;
      high_number = p.high;
      low_usable = u;
      high_usable = usable_on products (value_proper q.high) u p.rising;
      along = p.rising;
    }
operand quotients q p u =
    record {
      low_number = p.high;
      high_number = p.low;
      low_usable = usable_on quotients (value_proper q.high) u p.rising;
      high_usable = u;
      along = p.rising;
    }

-- an exact operand held by a pair lies between its ends, as the operation takes them
pub held_along : (o : Operation) (q : Pair) (y : Fraction) → Holds q y → Along o (value (with_low o q)) y × Along o y (value (with_high o q))
unfolding with_low with_high Along
held_along sums q y h = (h.low, h.high)
held_along products q y h = (h.low, h.high)
held_along quotients q y h = (h.high, h.low)
