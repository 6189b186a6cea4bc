-- What is known of a pair before it is worked: a profile tells how large and how wide it can be, whether its low end is above 0, and
-- whether its calls are all answered. One law for the operations: operands that fit their profiles give an answer that fits its own and
-- holds the exact result. Assumes nothing.
use mathlib.Core.Path.{◌≡◌, refl, sym, subst}
use mathlib.Core.Bool.{Bool, true, false, ◌&&◌, ◌||◌}
use mathlib.Core.Logic.{inl, inr}
use Prim.Native.Nat.{ℕ, zero, suc, ◌+◌, ◌*◌, ◌^◌, ◌≤◌, ◌<◌}
use native.Mathlib.Nat.{mul-le-mul, mul-le-mul_right, mul-pos}
use native.Mathlib.Omega.{arith}
use lib.Dec.{leb, ltb, lit<}
use lib.IntN.{ℤ, pos, negsuc}
use lib.Signed.{mag}
use lib.Pow.{pow-add}
use borrow.Author.Tests.{leb-true, ltb-true}
use Rattle.pair.specs.declared.Number.{Number}
use Rattle.pair.specs.declared.Pair.{Pair}
use Rattle.pair.specs.Fraction.{Fraction, Proper, plus, times, over}
use Rattle.pair.specs.Number.{is_pair, value, place, depth}
use Rattle.pair.specs.Calls.{Outcome, is, after, entry}
use Rattle.pair.specs.Promises.{Operation, sums, products, quotients, call, exact_result, low_end, with_low, Holds, Around, grown, Sized, scaled, Near, spread}
use Rattle.pair.proofs.Promises as promises
use Rattle.pair.proofs.Promises.{Within, Usable, joint, sized_on, value_proper, answered_within, rounds, pair_again, holds}
use Rattle.pair.proofs.Numbers.{both}
use Rattle.pair.proofs.Powers.{ten_above}
use Rattle.pair.proofs.Widths.{near_more, near_above, near_down, width, equal_ends}

-- What is known of a pair: its ends are 0 or from 10^−size to 10^size, its high end is its low end and at most width parts in 10^8 more,
-- its low end is above 0, and it is answered.
pub record Profile : Type 0 where
  pub size : ℕ
  pub width : ℕ
  pub positive : Bool
  pub answered : Bool

-- an answered pair of this size and width
abbrev pub answered_as : ℕ → ℕ → Bool → Profile
answered_as size width positive = record { size = size; width = width; positive = positive; answered = true }

-- the constant m × 10^e, of at most nine digits
unfoldable pub of_number : ℕ → ℤ → Profile
of_number m e =
    record { size = 10 + mag e; width = 0; positive = ltb 0 m; answered = leb m 999999999 && leb (mag e) 99000 }

-- where the low end of a result is above 0, and where a divisor may stand
unfoldable pub positives : Operation → Bool → Bool → Bool
positives sums a b = a || b
positives products a b = a && b
positives quotients a b = a

unfoldable pub usable : Operation → Bool → Bool
usable sums b = true
usable products b = true
usable quotients b = b

unfoldable pub joined : Operation → Profile → Profile → Profile
joined o P Q =
    let size : ℕ = joint o P.size Q.size in
    record {
      size = size;
      width = spread o P.width Q.width + 2;
      positive = positives o P.positive Q.positive;
      answered = P.answered && (Q.answered && (usable o Q.positive && leb size 99991));
    }

-- p is as its profile says
pub record Fits (P : Profile) (p : Pair) : Type 0 where
  pub pair : is_pair p ≡ true
  pub within : Within P.size p
  pub wide : Near P.width (value p.high) (value p.low)
  pub positive : P.positive ≡ true → 0 < (value p.low).num

-- the outcome is a pair that fits its profile and holds the exact value
pub record Good (P : Profile) (o : Outcome Pair) (x : Fraction) : Type 0 where
  pub answer : Pair
  pub told : o ≡ is answer
  pub fits : Fits P answer
  pub held : Holds answer x

-- What an operation's profile says of its operands, its divisor and its size.
pub record Parts (o : Operation) (P Q : Profile) : Type 0 where
  pub first : P.answered ≡ true
  pub second : Q.answered ≡ true
  pub divides : usable o Q.positive ≡ true
  pub few : joint o P.size Q.size ≤ 99991

pub parts : (o : Operation) (P Q : Profile) → (joined o P Q).answered ≡ true → Parts o P Q
unfolding joined
parts o P Q h =
    let k : ℕ = joint o P.size Q.size in
    let a = both P.answered (Q.answered && (usable o Q.positive && leb k 99991)) h in
    let b = both Q.answered (usable o Q.positive && leb k 99991) a.1 in
    let c = both (usable o Q.positive) (leb k 99991) b.1 in
    record { first = a.0; second = b.0; divides = c.0; few = leb-true k 99991 c.1 }

-- A value above 0 may divide.
usable_from : (o : Operation) (t : Bool) (y : Fraction) → usable o t ≡ true → (t ≡ true → 0 < y.num) → Usable o y
unfolding usable Usable
usable_from sums t y u h = tt
usable_from products t y u h = tt
usable_from quotients t y u h = h u

value_above : (w : Number) → 0 < (value w).den
value_above w = (value_proper w).above_zero

-- The exact low end of a result is above 0 where its operands' profiles say so.
low_above : (o : Operation) (s t : Bool) (p q : Pair) → positives o s t ≡ true →
    (s ≡ true → 0 < (value p.low).num) → (t ≡ true → 0 < (value q.low).num) → 0 < (low_end o p q).num
unfolding positives low_end with_low exact_result plus times over
low_above sums true t p q h a b = omega (arith, mul-pos (a refl) (value_above q.low))
low_above sums false t p q h a b = omega (arith, mul-pos (b h) (value_above p.low))
low_above products s t p q h a b = mul-pos (a (both s t h).0) (b (both s t h).1)
low_above quotients s t p q h a b = mul-pos (a h) (value_above q.high)

-- Sums, products and quotients.
pub good_op : (o : Operation) (P Q : Profile) {f g : Outcome Pair} {x y : Fraction} → Good P f x → Good Q g y → (joined o P Q).answered ≡ true →
    Good (joined o P Q) (after (call o) f g) (exact_result o x y)
unfolding joined after
good_op o P Q {x} {y} a b h =
    let p : Pair = a.answer in
    let q : Pair = b.answer in
    let e : Parts o P Q = parts o P Q h in
    let r = answered_within o P.size Q.size p q a.fits.pair b.fits.pair
    (usable_from o Q.positive (value q.low) e.divides b.fits.positive) a.fits.within b.fits.within e.few in
    record {
      answer = r.0;
      told = rw (a.told, b.told) r.1;
      fits =
          record {
            pair = pair_again o p q r.0 r.1;
            within = r.2;
            wide = width o P.width Q.width p q r.0 r.1 a.fits.wide b.fits.wide;
            positive =
                λ t.
                near_above (value_proper r.0.low) (near_down (rounds o p q r.0 r.1).0)
                (low_above o P.positive Q.positive p q t a.fits.positive b.fits.positive);
          };
      held = holds o p q r.0 x y r.1 a.held b.held;
    }

-- What fits a profile fits a wider one.
pub good_more : (P Q : Profile) {o : Outcome Pair} {x : Fraction} → P.size ≤ Q.size → P.width ≤ Q.width → (Q.positive ≡ true → P.positive ≡ true) → Good P o x → Good Q o x
good_more P Q h w above g =
    record {
      answer = g.answer;
      told = g.told;
      fits =
          record {
            pair = g.fits.pair;
            within = record { low = sized_on h g.fits.within.low; high = sized_on h g.fits.within.high };
            wide = near_more w g.fits.wide;
            positive = λ t. g.fits.positive (above t);
          };
      held = g.held;
    }

-- What holds a fraction holds its equals.
pub good_equal : (P : Profile) {o : Outcome Pair} {x y : Fraction} → Good P o x → Proper y → promises.◌=ᶠ◌ x y → Good P o y
good_equal P g p e =
    record {
      answer = g.answer;
      told = g.told;
      fits = g.fits;
      held = promises.holds_equal g.answer g.held p (record { across = omega (arith, e.across) }) (record { across = omega (arith, e.across) });
    }

-- A constant.
place_up : (n : ℕ) → place (pos n) ≡ depth + n
unfolding place
place_up n = refl

place_down : (n : ℕ) → n ≤ 99000 → place (negsuc n) + (1 + n) ≡ depth
unfolding depth place
place_down n h = omega arith

pub down_is : (n : ℕ) → n ≤ 99000 → 10 ^ place (negsuc n) * (10 * 10 ^ n) ≡ 10 ^ depth
down_is n h = rw (← (pow-add 10 1 n), ← (pow-add 10 (place (negsuc n)) (1 + n)), place_down n h)

number_size : (m : ℕ) (e : ℤ) → m ≤ 999999999 → mag e ≤ 99000 → Sized (10 + mag e) (scaled m e)
unfolding scaled
number_size zero e h l = record { sized = inl (omega arith) }
number_size (suc m) (pos n) h l =
    record {
      sized =
          inr (
            rw (place_up n, pow-add 10 depth n, pow-add 10 10 n)
                (omega (arith, mul-le-mul (ten_above n) (ten_above n), mul-le-mul_right (10 ^ depth) (mul-le-mul (mul-pos (ten_above n) (ten_above n)) h))),
            rw (place_up n, pow-add 10 depth n, pow-add 10 10 n) (omega (arith, mul-le-mul_right (10 ^ depth * 10 ^ n) h)),
          );
    }
number_size (suc m) (negsuc n) h l =
    let a : ℕ = 10 ^ place (negsuc n) in
    record {
      sized =
          inr (
            rw (← (down_is n l), pow-add 10 10 n) (omega (arith, mul-le-mul_right (a * 10 ^ n) (mul-pos {m = 1} {n = suc m} (lit< tt) (omega arith)))),
            rw (← (down_is n l), pow-add 10 10 n) (omega (arith, mul-le-mul_right a h, mul-le-mul_right a (mul-pos (ten_above n) (ten_above n)))),
          );
    }

-- The pair around an exact value is one part wide.
pub good_around : (P : Profile) (x : Fraction) (p : Pair) → Proper x → Around x p → Sized P.size x → P.size ≤ 99991 → P.width ≡ 1 → (P.positive ≡ true → 0 < x.num) → Good P (is p) x
unfolding grown
good_around P x p m a s n w above =
    record {
      answer = p;
      told = refl;
      fits =
          record {
            pair = promises.around_pair a m;
            within = promises.around_within a m P.size s n;
            wide = subst (λ (k : ℕ). Near k (value p.high) (value p.low)) (sym w) (record { across = omega (arith, a.narrow.across) });
            positive = λ t. promises.around_above a m (above t);
          };
      held = promises.around_holds a m;
    }

pub good_number : (m : ℕ) (e : ℤ) → (of_number m e).answered ≡ true → Good (of_number m e) (entry m e) (scaled m e)
unfolding of_number
good_number m e h =
    let a = both (leb m 999999999) (leb (mag e) 99000) h in
    let d : m ≤ 999999999 = leb-true m 999999999 a.0 in
    let l : mag e ≤ 99000 = leb-true (mag e) 99000 a.1 in
    let r = promises.entry_answered m e (omega arith) l in
    let around = promises.entry_around m e r.0 r.1 in
    let proper = promises.scaled_proper m e in
    let x = promises.entry_exact m e r.0 d r.1 in
    record {
      answer = r.0;
      told = r.1;
      fits =
          record {
            pair = promises.around_pair around proper;
            within = promises.around_within around proper (10 + mag e) (number_size m e d l) (omega arith);
            wide = equal_ends r.0 x.0;
            positive = λ t. promises.entry_above m e r.0 r.1 (ltb-true 0 m t);
          };
      held = x.1;
    }
