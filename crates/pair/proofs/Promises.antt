-- What the crates above may count on, each promise stated once over the operations: an answer's ends are the exact ends rounded once, it
-- is a pair, it holds the exact result, it rises with its operands, and a call is answered wherever its exact ends are not too large or
-- too small, and ends that come to working numbers are not rounded. The same for 1 − f, for entries, for comparing and for counting in
-- units. Assumes nothing.
use mathlib.Core.Path.{◌≡◌, refl, sym, ◌∙◌, ap, ap₂}
use mathlib.Core.Bool.{Bool, true, false, ◌&&◌}
use mathlib.Core.Logic.{◌⊎◌, inl, inr, ◌↔◌}
use Prim.Native.Nat.{ℕ, ◌+◌, ◌*◌, ◌^◌, ◌≤◌, ◌<◌}
use native.Mathlib.Nat.{mul-le-mul_right, le_of_mul-le-mul_right, mul-lt-mul_of_pos_right, lt_of_mul-lt-mul_right, mul-pos, le_antisymm}
use native.Mathlib.Omega.{arith}
use lib.Dec.{leb, ltb, lit<, lit≤}
use lib.IntN.{ℤ, pos, ◌-ℤ◌}
use lib.Signed.{mag}
use borrow.Author.Tests.{le-leb, lt-ltb}
use Rattle.pair.specs.declared.Number.{Number}
use Rattle.pair.specs.declared.Pair.{Pair}
use Rattle.pair.specs.declared.Units.{Units}
use Rattle.pair.specs.Fraction.{Fraction, Proper, ◌≤ᶠ◌, plus, times, over, rest}
use Rattle.pair.specs.Number as N
use Rattle.pair.specs.Number.{is_zero, zero_exponent, units_at, lower, lesser, rise, in_reach, is_number, is_pair, at_most, value, place, depth, one}
use Rattle.pair.specs.Rounding.{rounded, rest_end, units_end, divided}
use Rattle.pair.specs.Calls.{is, refused, provided, zero_pair, one_pair, ends, checked, most_printed, entry, written, long_entry, one_minus_entry, sum, product, quotient, one_minus, compared, in_units}
use Rattle.pair.specs.Promises.{Operation, sums, products, quotients, call, exact_result, low_end, high_end, with_low, with_high, Holds, Beside, Close, grown, Rounded, Around, Sized, ◌≤ₑ◌, scaled}
use Rattle.pair.proofs.Exponents.{mag_minus}
use Rattle.pair.proofs.Powers.{ten_above, ten_reflects}
use Rattle.pair.proofs.Dividing.{down_least, down_most, up_least, up_most}
use Rattle.pair.proofs.Fractions.{rest_falls_exactly}
pub use Rattle.pair.proofs.Fractions.{◌<ᶠ◌, ◌=ᶠ◌, equal_itself, equal_turned, equal_through, equal_below, plus_equal, minus_equal, below_itself, through, exactly_rises, exactly_proper}
unfoldable pub use Rattle.pair.proofs.Fractions.{Usable, Along}
use Rattle.pair.proofs.Numbers.{both, reach_mag, number_reach}
pub use Rattle.pair.proofs.Numbers.{zero_is}
use Rattle.pair.proofs.Providing.{by_cases, never}
use Rattle.pair.proofs.Ordered.{both_from, number, number_from, zero_number, working, not_at_most}
pub use Rattle.pair.proofs.Ordered.{at_most_lem, value_proper, size_reach}
use Rattle.pair.proofs.Nearest.{rounded_nearest, rounded_reach, rounded_narrow, rounded_itself}
use Rattle.pair.proofs.Rests.{share_from}
use Rattle.pair.proofs.ExactEnds.{end_of, end_rounds, end_reach, end_itself, one_number, one_value, rest_ratio, rest_sized, entry_ratio, entry_sized, entry_same, entry_zeros, wide, wide_is, units_divided}
pub use Rattle.pair.proofs.Keeps.{stays_above, stays_below, keeps_order, sized_end}
pub use Rattle.pair.proofs.Sizes.{joint_size, sized_on}
unfoldable pub use Rattle.pair.proofs.Sizes.{joint}
pub use Rattle.pair.proofs.Answers.{Ordered, ordered, pair_from_lem, zero_means, zero_not}
use Rattle.pair.proofs.Answers.{pair, ends_are, ends_from, usable_on, Answered, told, answers, Operand, operand, held_along}
-- How a refusal is made: the crates above refuse in the same way.
pub use Rattle.pair.proofs.Providing.{refused_as, told_as, provided_is, provided_true}

-- The operands of an answered call are pairs, and a divisor's low end is above 0.
pub operands : (o : Operation) (p q r : Pair) → call o p q ≡ is r → (is_pair p ≡ true) × (is_pair q ≡ true) × Usable o (value q.low)
operands o p q r h = ((told o p q r h).first, (told o p q r h).second, (told o p q r h).usable)

second : {o : Operation} {p q r : Pair} → Answered o p q r → Operand o q
second {o} {p} {q} t = operand o q (ordered q t.second) t.usable

-- Each end of the answer is the exact end rounded once: the low end down, the high end up.
pub rounds : (o : Operation) (p q r : Pair) → call o p q ≡ is r → Rounded false (low_end o p q) r.low × Rounded true (high_end o p q) r.high
unfolding low_end high_end
rounds o p q r h =
    let t : Answered o p q r = told o p q r h in
    let f : Ordered p = ordered p t.first in
    let s : Operand o q = second t in
    rw t.ends_is (
      end_rounds o false p.low (with_low o q) f.low s.low_number s.low_usable t.low_reach,
      end_rounds o true p.high (with_high o q) f.high s.high_number s.high_usable t.high_reach,
    )

-- The exact ends of an answered call are proper fractions.
pub ends_proper : (o : Operation) (p q r : Pair) → call o p q ≡ is r → Proper (low_end o p q) × Proper (high_end o p q)
unfolding low_end high_end
ends_proper o p q r h =
    let s : Operand o q = second (told o p q r h) in (
      exactly_proper o (value_proper p.low) (value_proper (with_low o q)) s.low_usable,
      exactly_proper o (value_proper p.high) (value_proper (with_high o q)) s.high_usable,
    )

-- The answer is a pair again.
pub pair_again : (o : Operation) (p q r : Pair) → call o p q ≡ is r → is_pair r ≡ true
unfolding low_end high_end Beside
pair_again o p q r h =
    let t : Answered o p q r = told o p q r h in
    let f : Ordered p = ordered p t.first in
    let s : Operand o q = second t in
    let d = rounds o p q r h in
    let m = ends_proper o p q r h in
    pair_from_lem r
    (record {
      low = d.0.working;
      high = d.1.working;
      rising =
          through m.0 d.0.side
          (through m.1 (exactly_rises o (value (with_low o q)) (value (with_high o q)) f.rising s.along) d.1.side);
    })

-- The answer holds the exact result of whatever exact operands its operands hold.
pub holds : (o : Operation) (p q r : Pair) (x y : Fraction) → call o p q ≡ is r → Holds p x → Holds q y → Holds r (exact_result o x y)
unfolding low_end high_end Beside
holds o p q r x y h a b =
    let t : Answered o p q r = told o p q r h in
    let d = rounds o p q r h in
    let m = ends_proper o p q r h in
    let l = held_along o q y b in
    record {
      proper = exactly_proper o a.proper b.proper (usable_on o b.proper t.usable b.low);
      low = through m.0 d.0.side (exactly_rises o (value (with_low o q)) y a.low l.0);
      high = through m.1 (exactly_rises o y (value (with_high o q)) a.high l.1) d.1.side;
    }

-- A pair that holds x holds every fraction equal to x.
pub holds_equal : (p : Pair) {x y : Fraction} → Holds p x → Proper y → x ≤ᶠ y → y ≤ᶠ x → Holds p y
holds_equal p h q a b = record { proper = q; low = through h.proper h.low a; high = through h.proper b h.high }

-- The order of pairs by their ends is reflexive and transitive.
pub ends_itself : (p : Pair) → ◌≤ₑ◌ p p
ends_itself p = record { low = below_itself (value p.low); high = below_itself (value p.high) }

pub ends_through : {p q r : Pair} → ◌≤ₑ◌ p q → ◌≤ₑ◌ q r → ◌≤ₑ◌ p r
ends_through {q} a b =
    record { low = through (value_proper q.low) a.low b.low; high = through (value_proper q.high) a.high b.high }

-- The second operand rises, or falls where it divides.
unfoldable pub Toward : Operation → Pair → Pair → Type 0
Toward sums q q' = ◌≤ₑ◌ q q'
Toward products q q' = ◌≤ₑ◌ q q'
Toward quotients q q' = ◌≤ₑ◌ q' q

toward : (o : Operation) (q q' : Pair) → Toward o q q' →
    Along o (value (with_low o q)) (value (with_low o q')) × Along o (value (with_high o q)) (value (with_high o q'))
unfolding Toward Along with_low with_high
toward sums q q' h = (h.low, h.high)
toward products q q' h = (h.low, h.high)
toward quotients q q' h = (h.high, h.low)

-- Sums and products rise with both operands, quotients with the first and against the second.
pub rises : (o : Operation) (p p' q q' r r' : Pair) → call o p q ≡ is r → call o p' q' ≡ is r' → ◌≤ₑ◌ p p' → Toward o q q' → ◌≤ₑ◌ r r'
unfolding low_end high_end
rises o p p' q q' r r' h h' a b =
    let d = rounds o p q r h in
    let d' = rounds o p' q' r' h' in
    let m = ends_proper o p q r h in
    let m' = ends_proper o p' q' r' h' in
    let l = toward o q q' b in
    record {
      low = keeps_order false d.0 d'.0 m.0 m'.0 (exactly_rises o (value (with_low o q)) (value (with_low o q')) a.low l.0);
      high = keeps_order true d.1 d'.1 m.1 m'.1 (exactly_rises o (value (with_high o q)) (value (with_high o q')) a.high l.1);
    }

-- A call on pairs is answered if its exact ends are 0 or from 10^−99991 to 10^99991.
pub answered : (o : Operation) (p q : Pair) (k : ℕ) → is_pair p ≡ true → is_pair q ≡ true → Usable o (value q.low) →
    Sized k (low_end o p q) → Sized k (high_end o p q) → k ≤ 99991 → (r : Pair) × (call o p q ≡ is r)
unfolding low_end high_end
answered o p q k a b u l h n =
    let f : Ordered p = ordered p a in
    let s : Operand o q = operand o q (ordered q b) u in (
      pair (end_of o false p.low (with_low o q)) (end_of o true p.high (with_high o q)),
      answers o p q a b u
          (end_reach o false p.low (with_low o q) f.low s.low_number s.low_usable k l n)
          (end_reach o true p.high (with_high o q) f.high s.high_number s.high_usable k h n),
    )

-- Ends that come to working numbers are those numbers.
pub exact : (o : Operation) (p q r : Pair) → is_pair p ≡ true → is_pair q ≡ true → Usable o (value q.low) → is_pair r ≡ true →
    low_end o p q =ᶠ value r.low → high_end o p q =ᶠ value r.high → call o p q ≡ is r
unfolding low_end high_end
exact o p q r a b u c l h =
    let f : Ordered p = ordered p a in
    let s : Operand o q = operand o q (ordered q b) u in
    let t : Ordered r = ordered r c in
    let i : end_of o false p.low (with_low o q) ≡ r.low = end_itself o false p.low (with_low o q) r.low f.low s.low_number s.low_usable t.low l in
    let j : end_of o true p.high (with_high o q) ≡ r.high = end_itself o true p.high (with_high o q) r.high f.high s.high_number s.high_usable t.high h in
    answers o p q a b u (rw i (number_reach r.low t.low)) (rw j (number_reach r.high t.high)) ∙ rw (i, j) refl

-- Both ends are 0 or from 10^−k to 10^k.
pub record Within (k : ℕ) (p : Pair) : Type 0 where
  pub low : Sized k (value p.low)
  pub high : Sized k (value p.high)

within_operand : (o : Operation) (k : ℕ) (q : Pair) → Within k q → Sized k (value (with_low o q)) × Sized k (value (with_high o q))
unfolding with_low with_high
within_operand sums k q s = (s.low, s.high)
within_operand products k q s = (s.low, s.high)
within_operand quotients k q s = (s.high, s.low)

-- The sizes of the operands tell that a call is answered, and the size of its answer.
pub answered_within : (o : Operation) (j k : ℕ) (p q : Pair) → is_pair p ≡ true → is_pair q ≡ true → Usable o (value q.low) →
    Within j p → Within k q → joint o j k ≤ 99991 → (r : Pair) × (call o p q ≡ is r) × Within (joint o j k) r
unfolding low_end high_end
answered_within o j k p q a b u v w n =
    let s : Operand o q = operand o q (ordered q b) u in
    let t = within_operand o k q w in
    let l : Sized (joint o j k) (low_end o p q) = joint_size o j k v.low t.0 s.low_usable in
    let h : Sized (joint o j k) (high_end o p q) = joint_size o j k v.high t.1 s.high_usable in
    let c = answered o p q (joint o j k) a b u l h n in
    let d = rounds o p q c.0 c.1 in
    let m = ends_proper o p q c.0 c.1 in (
      c.0,
      c.1,
      record {
        low = sized_end false d.0 m.0 (joint o j k) l n;
        high = sized_end true d.1 m.1 (joint o j k) h n;
      },
    )

-- A number is at most 1 where its value's numerator is at most the denominator.
most_one : (w : Number) → (value w ≤ᶠ value one) ↔ ((value w).num ≤ (value w).den)
unfolding value
most_one w = (
  λ h. omega (arith, le_of_mul-le-mul_right {k = 10 ^ depth} h.across (ten_above depth), one_value),
  λ h. record { across = mul-le-mul_right (10 ^ depth) (omega (arith, h, one_value)) },
)

record RestTold (f r : Pair) : Type 0 where
  operand : is_pair f ≡ true
  most : value f.high ≤ᶠ value one
  low_reach : in_reach (rest_end false f.high).exponent ≡ true
  high_reach : in_reach (rest_end true f.low).exponent ≡ true
  ends_is : r ≡ pair (rest_end false f.high) (rest_end true f.low)

rest_told : (f r : Pair) → one_minus f ≡ is r → RestTold f r
unfolding one_minus
rest_told f r h =
    let t = provided_is (is_pair f && at_most f.high one) (ends (rest_end false f.high) (rest_end true f.low)) r h in
    let a = both (is_pair f) (at_most f.high one) t.0 in
    let e = ends_are (rest_end false f.high) (rest_end true f.low) r t.1 in
    record {
      operand = a.0;
      most = (at_most_lem f.high one (ordered f a.0).high one_number).0 a.1;
      low_reach = e.0;
      high_reach = e.1;
      ends_is = e.2;
    }

-- Where 1 − f is answered, f is a pair with its high end at most 1.
pub rest_operand : (f r : Pair) → one_minus f ≡ is r → (is_pair f ≡ true) × ((value f.high).num ≤ (value f.high).den)
rest_operand f r h = ((rest_told f r h).operand, (most_one f.high).0 (rest_told f r h).most)

-- The low end of 1 − f is 1 less f's high end, rounded down, and its high end 1 less f's low end, rounded up.
pub rest_rounds : (f r : Pair) → one_minus f ≡ is r → Rounded false (rest (value f.high)) r.low × Rounded true (rest (value f.low)) r.high
unfolding rest_end
rest_rounds f r h =
    let t : RestTold f r = rest_told f r h in
    let o : Ordered f = ordered f t.operand in
    rw t.ends_is (
      rounded_nearest false (rest_ratio f.high (working f.high o.high).reach) t.low_reach,
      rounded_nearest true (rest_ratio f.low (working f.low o.low).reach) t.high_reach,
    )

rest_proper : (w : Number) → Proper (rest (value w))
unfolding rest
rest_proper w = record { above_zero = (value_proper w).above_zero }

-- 1 − f is a pair.
pub rest_pair : (f r : Pair) → one_minus f ≡ is r → is_pair r ≡ true
unfolding Beside
rest_pair f r h =
    let d = rest_rounds f r h in
    pair_from_lem r
    (record {
      low = d.0.working;
      high = d.1.working;
      rising =
          through (rest_proper f.high) d.0.side
          (through (rest_proper f.low) (rest_falls_exactly (ordered f (rest_told f r h).operand).rising) d.1.side);
    })

-- 1 − f holds 1 − x for every exact x that f holds.
pub rest_holds : (f r : Pair) (x : Fraction) → one_minus f ≡ is r → Holds f x → Holds r (rest x)
unfolding Beside rest
rest_holds f r x h a =
    let d = rest_rounds f r h in
    record {
      proper = record { above_zero = a.proper.above_zero };
      low = through (rest_proper f.high) d.0.side (rest_falls_exactly a.high);
      high = through (rest_proper f.low) (rest_falls_exactly a.low) d.1.side;
    }

-- 1 − f falls as f rises.
pub rest_falls : (f f' r r' : Pair) → one_minus f ≡ is r → one_minus f' ≡ is r' → ◌≤ₑ◌ f f' → ◌≤ₑ◌ r' r
rest_falls f f' r r' h h' a =
    let d = rest_rounds f r h in
    let d' = rest_rounds f' r' h' in
    record {
      low = keeps_order false d'.0 d.0 (rest_proper f'.high) (rest_proper f.high) (rest_falls_exactly a.high);
      high = keeps_order true d'.1 d.1 (rest_proper f'.low) (rest_proper f.low) (rest_falls_exactly a.low);
    }

-- What nine figures leave of 1 is 0 or at least 10^−9.
rest_nine : (w : Number) → is_number w ≡ true → value w ≤ᶠ value one → Sized 9 (rest (value w))
unfolding value
rest_nine w n h = rest_sized 9 w (lit< tt) (omega (arith, (working w n).most)) ((most_one w).0 h)

-- 1 − f is answered for every pair whose high end is at most 1.
pub rest_answered : (f : Pair) → is_pair f ≡ true → (value f.high).num ≤ (value f.high).den → (r : Pair) × (one_minus f ≡ is r)
unfolding one_minus rest_end
rest_answered f p h =
    let o : Ordered f = ordered f p in
    let m : value f.high ≤ᶠ value one = (most_one f.high).1 h in
    let l : value f.low ≤ᶠ value one = through (value_proper f.high) o.rising m in (
      pair (rest_end false f.high) (rest_end true f.low),
      provided_true (ends (rest_end false f.high) (rest_end true f.low))
          (both_from p ((at_most_lem f.high one o.high one_number).1 m))
          ∙ ends_from (rest_end false f.high) (rest_end true f.low)
          (rounded_reach false (rest_ratio f.high (working f.high o.high).reach) 9 (rest_nine f.high o.high m) (lit≤ tt))
          (rounded_reach true (rest_ratio f.low (working f.low o.low).reach) 9 (rest_nine f.low o.low l) (lit≤ tt)),
    )

-- The ends of 1 − f are 0 or from 10^−9 to 10^9.
pub rest_within : (f r : Pair) → one_minus f ≡ is r → Within 9 r
rest_within f r h =
    let t : RestTold f r = rest_told f r h in
    let o : Ordered f = ordered f t.operand in
    let d = rest_rounds f r h in
    record {
      low = sized_end false d.0 (rest_proper f.high) 9 (rest_nine f.high o.high t.most) (lit≤ tt);
      high = sized_end true d.1 (rest_proper f.low) 9 (rest_nine f.low o.low (through (value_proper f.high) o.rising t.most)) (lit≤ tt);
    }

-- A pair around a proper fraction x is a pair, holds x, is as large as x and above 0 where x is.
module _ {x : Fraction} {p : Pair} (a : Around x p) (m : Proper x) where
  pub around_pair : is_pair p ≡ true
  unfolding Beside
  around_pair = pair_from_lem p (record { low = a.low.working; high = a.high.working; rising = through m a.low.side a.high.side })

  pub around_holds : Holds p x
  unfolding Beside
  around_holds = record { proper = m; low = a.low.side; high = a.high.side }

  pub around_within : (k : ℕ) → Sized k x → k ≤ 99991 → Within k p
  around_within k s n = record { low = sized_end false a.low m k s n; high = sized_end true a.high m k s n }

  pub around_above : 0 < x.num → 0 < (value p.low).num
  unfolding Close grown
  around_above h =
      lt_of_mul-lt-mul_right (x.den * 100000001) {m = 0}
      (omega (arith, a.low.close.across, mul-pos h (value_proper p.low).above_zero))

grown_proper : {x : Fraction} → Proper x → Proper (grown x)
unfolding grown
grown_proper p = record { above_zero = mul-pos p.above_zero (lit< tt) }

-- A pair around x is the pair around every fraction equal to x.
module _ {x y : Fraction} (m : Proper x) (n : Proper y) (s : x =ᶠ y) where
  below_equal : x ≤ᶠ y
  below_equal = equal_below s

  above_equal : y ≤ᶠ x
  above_equal = equal_below (equal_turned s)

  none_equal : y.num ≡ 0 → x.num ≡ 0
  none_equal z = le_antisymm (le_of_mul-le-mul_right {m = x.num} {n = 0} (omega (arith, s.across, ap (λ (k : ℕ). k * x.den) z)) n.above_zero) (omega arith)

  equal_none : x.num ≡ 0 → y.num ≡ 0
  equal_none z = le_antisymm (le_of_mul-le-mul_right {m = y.num} {n = 0} (omega (arith, s.across, ap (λ (k : ℕ). k * y.den) z)) m.above_zero) (omega arith)

  grows_equal : grown x ≤ᶠ grown y
  unfolding grown
  grows_equal = record { across = omega (arith, ap (λ (k : ℕ). k * 10000000100000000) s.across) }

  rounded_equal : (up : Bool) {w : Number} → Rounded up x w → Rounded up y w
  unfolding Beside Close
  rounded_equal false {w} r =
      record {
        working = r.working;
        side = through m r.side below_equal;
        nearest = λ v i h. r.nearest v i (through n h above_equal);
        close = through m above_equal r.close;
        zero_from = λ z. r.zero_from (none_equal z);
        zero_only = λ z. equal_none (r.zero_only z);
      }
  rounded_equal true {w} r =
      record {
        working = r.working;
        side = through m above_equal r.side;
        nearest = λ v i h. r.nearest v i (through n below_equal h);
        close = through (grown_proper m) r.close grows_equal;
        zero_from = λ z. r.zero_from (none_equal z);
        zero_only = λ z. equal_none (r.zero_only z);
      }

  pub around_equal : {p : Pair} → Around x p → Around y p
  around_equal a = record { low = rounded_equal false a.low; high = rounded_equal true a.high; narrow = a.narrow }

  -- Equal fractions are equally large.
  pub sized_equal : (k : ℕ) → Sized k x → Sized k y
  sized_equal k z = record { sized = go z.sized }
    where
      go : (x.num ≡ 0) ⊎ ((x.den ≤ x.num * 10 ^ k) × (x.num ≤ x.den * 10 ^ k)) → (y.num ≡ 0) ⊎ ((y.den ≤ y.num * 10 ^ k) × (y.num ≤ y.den * 10 ^ k))
      go (inl i) = inl (equal_none i)
      go (inr l) =
          inr (
            le_of_mul-le-mul_right (omega (arith, mul-le-mul_right y.den l.0, ap (λ (i : ℕ). i * 10 ^ k) s.across)) m.above_zero,
            le_of_mul-le-mul_right (omega (arith, mul-le-mul_right y.den l.1, s.across)) m.above_zero,
          )

-- Both its ends rise with x.
pub around_rises : {x x' : Fraction} {p p' : Pair} → Around x p → Around x' p' → Proper x → Proper x' → x ≤ᶠ x' → ◌≤ₑ◌ p p'
around_rises a b m m' h = record { low = keeps_order false a.low b.low m m' h; high = keeps_order true a.high b.high m m' h }

record EntryTold (m : ℕ) (e : ℤ) (r : Pair) : Type 0 where
  reach : in_reach e ≡ true
  low_reach : in_reach (rounded false m 1 e).exponent ≡ true
  high_reach : in_reach (rounded true m 1 e).exponent ≡ true
  ends_is : r ≡ pair (rounded false m 1 e) (rounded true m 1 e)

entry_told : (m : ℕ) (e : ℤ) (r : Pair) → entry m e ≡ is r → EntryTold m e r
unfolding entry
entry_told m e r h =
    let t = provided_is (leb m most_printed && in_reach e) (ends (rounded false m 1 e) (rounded true m 1 e)) r h in
    let a = both (leb m most_printed) (in_reach e) t.0 in
    let b = ends_are (rounded false m 1 e) (rounded true m 1 e) r t.1 in
    record { reach = a.1; low_reach = b.0; high_reach = b.1; ends_is = b.2 }

long_told : (high low : ℕ) (e : ℤ) (r : Pair) → long_entry high low e ≡ is r → EntryTold (high * 10 ^ 18 + low) e r
unfolding long_entry
long_told high low e r h =
    let n : ℕ = high * 10 ^ 18 + low in
    let t = provided_is (ltb high (10 ^ 19) && (ltb low (10 ^ 18) && in_reach e)) (ends (rounded false n 1 e) (rounded true n 1 e)) r h in
    let a = both (ltb high (10 ^ 19)) (ltb low (10 ^ 18) && in_reach e) t.0 in
    let b = ends_are (rounded false n 1 e) (rounded true n 1 e) r t.1 in
    record { reach = (both (ltb low (10 ^ 18)) (in_reach e) a.1).1; low_reach = b.0; high_reach = b.1; ends_is = b.2 }

told_around : (m : ℕ) (e : ℤ) (r : Pair) → EntryTold m e r → Around (scaled m e) r
told_around m e r t =
    let x = entry_ratio m e (reach_mag e t.reach) in
    rw t.ends_is
    (record { low = rounded_nearest false x t.low_reach; high = rounded_nearest true x t.high_reach; narrow = rounded_narrow x })

-- An entry is the pair around m × 10^e, and a long one around (high × 10^18 + low) × 10^e.
pub entry_around : (m : ℕ) (e : ℤ) (r : Pair) → entry m e ≡ is r → Around (scaled m e) r
entry_around m e r h = told_around m e r (entry_told m e r h)

pub long_entry_around : (high low : ℕ) (e : ℤ) (r : Pair) → long_entry high low e ≡ is r → Around (scaled (high * 10 ^ 18 + low) e) r
long_entry_around high low e r h = told_around (high * 10 ^ 18 + low) e r (long_told high low e r h)

-- m × 10^e is a proper fraction.
pub scaled_proper : (m : ℕ) (e : ℤ) → Proper (scaled m e)
unfolding scaled
scaled_proper m e = record { above_zero = ten_above depth }

-- An entry of at most nine digits has equal ends and holds m × 10^e, so it is m × 10^e exactly.
pub entry_exact : (m : ℕ) (e : ℤ) (r : Pair) → m ≤ 999999999 → entry m e ≡ is r → (r.low ≡ r.high) × Holds r (scaled m e)
entry_exact m e r d h =
    (rw (entry_told m e r h).ends_is (entry_same m e d), around_holds (entry_around m e r h) (scaled_proper m e))

ends_told : (m : ℕ) (e : ℤ) → m ≤ 10 ^ 37 → mag e ≤ 99000 → ends (rounded false m 1 e) (rounded true m 1 e) ≡ is (pair (rounded false m 1 e) (rounded true m 1 e))
ends_told m e h l =
    let x = entry_ratio m e (omega arith) in
    ends_from (rounded false m 1 e) (rounded true m 1 e)
    (rounded_reach false x wide (entry_sized m e h l) (omega (arith, wide_is)))
    (rounded_reach true x wide (entry_sized m e h l) (omega (arith, wide_is)))

-- An entry of at most twelve digits, and a long one, is answered for every exponent from −99000 to 99000.
pub entry_answered : (m : ℕ) (e : ℤ) → m ≤ most_printed → mag e ≤ 99000 → (r : Pair) × (entry m e ≡ is r)
unfolding entry
entry_answered m e h l = (
  pair (rounded false m 1 e) (rounded true m 1 e),
  provided_true (ends (rounded false m 1 e) (rounded true m 1 e)) (both_from (le-leb m most_printed h) (size_reach e (omega arith)))
      ∙ ends_told m e (omega arith) l,
)

pub long_entry_answered : (high low : ℕ) (e : ℤ) → high < 10 ^ 19 → low < 10 ^ 18 → mag e ≤ 99000 → (r : Pair) × (long_entry high low e ≡ is r)
unfolding long_entry
long_entry_answered high low e h k l =
    let n : ℕ = high * 10 ^ 18 + low in (
      pair (rounded false n 1 e) (rounded true n 1 e),
      provided_true (ends (rounded false n 1 e) (rounded true n 1 e)) (both_from (lt-ltb high (10 ^ 19) h) (both_from (lt-ltb low (10 ^ 18) k) (size_reach e (omega arith))))
          ∙ ends_told n e (omega arith) l,
    )

-- Both ends of an entry rise with m × 10^e.
pub entry_rises : (m m' : ℕ) (e e' : ℤ) (r r' : Pair) → entry m e ≡ is r → entry m' e' ≡ is r' → scaled m e ≤ᶠ scaled m' e' → ◌≤ₑ◌ r r'
entry_rises m m' e e' r r' h h' l = around_rises (entry_around m e r h) (entry_around m' e' r' h') (scaled_proper m e) (scaled_proper m' e') l

-- An entry of more than 0 is above 0.
pub entry_above : (m : ℕ) (e : ℤ) (r : Pair) → entry m e ≡ is r → 0 < m → 0 < (value r.low).num
unfolding scaled
entry_above m e r h p = around_above (entry_around m e r h) (scaled_proper m e) (mul-pos p (ten_above (place e)))

-- 1 less m × 10^e, of at most 1, is a proper fraction, and 0 or at least 10^−12.
pub rest_scaled_proper : (m : ℕ) (e : ℤ) → Proper (rest (scaled m e))
unfolding scaled rest
rest_scaled_proper m e = record { above_zero = ten_above depth }

pub rest_scaled_sized : (m : ℕ) (e : ℤ) → m ≤ most_printed → (scaled m e).num ≤ (scaled m e).den → Sized 12 (rest (scaled m e))
unfolding scaled value
rest_scaled_sized m e h l = rest_sized 12 (number m e) (lit< tt) (omega arith) l

-- 1 − m × 10^e from the printed digits is the pair around it.
pub rest_entry_around : (m : ℕ) (e : ℤ) (r : Pair) → one_minus_entry m e ≡ is r → Around (rest (scaled m e)) r
unfolding one_minus_entry rest_end scaled value
rest_entry_around m e r h =
    let f : Number = number m e in
    let t = provided_is (leb m most_printed && (in_reach e && at_most f one)) (ends (rest_end false f) (rest_end true f)) r h in
    let a = both (leb m most_printed) (in_reach e && at_most f one) t.0 in
    let b = ends_are (rest_end false f) (rest_end true f) r t.1 in
    let x = rest_ratio f (reach_mag e (both (in_reach e) (at_most f one) a.1).0) in
    rw b.2 (record { low = rounded_nearest false x b.0; high = rounded_nearest true x b.1; narrow = rounded_narrow x })

-- It is answered for at most twelve digits, an exponent from −99000 to 99000 and a value of at most 1.
pub rest_entry_answered : (m : ℕ) (e : ℤ) → m ≤ most_printed → mag e ≤ 99000 → (scaled m e).num ≤ (scaled m e).den → (r : Pair) × (one_minus_entry m e ≡ is r)
unfolding one_minus_entry rest_end scaled value
rest_entry_answered m e h l k =
    let f : Number = number m e in
    let s : mag e < 100000 = omega arith in
    let z : Sized 12 (rest (value f)) = rest_sized 12 f (lit< tt) (omega arith) k in (
      pair (rest_end false f) (rest_end true f),
      provided_true (ends (rest_end false f) (rest_end true f))
          (both_from (le-leb m most_printed h) (both_from (size_reach e (omega arith)) (share_from m e s k)))
          ∙ ends_from (rest_end false f) (rest_end true f)
          (rounded_reach false (rest_ratio f s) 12 z (lit≤ tt))
          (rounded_reach true (rest_ratio f s) 12 z (lit≤ tt)),
    )

-- A number written with at most nine digits, and an exponent from −99000 to 99000, is a working number of just that value, and both ends
-- of its entry.
module _ (m : ℕ) (e : ℤ) (few : m ≤ 999999999) (size : mag e ≤ 99000) where
  pub written_entry : entry m e ≡ is (pair (written m e) (written m e))
  unfolding written
  written_entry =
      let r = entry_answered m e (omega arith) size in
      r.1 ∙ ap is ((entry_told m e r.0 r.1).ends_is ∙ ap (pair (rounded false m 1 e)) (sym (entry_same m e few)))

  pub written_number : is_number (written m e) ≡ true
  written_number = (entry_around m e (pair (written m e) (written m e)) written_entry).low.working

  pub written_value : value (written m e) =ᶠ scaled m e
  written_value =
      let x : Holds (pair (written m e) (written m e)) (scaled m e) = (entry_exact m e (pair (written m e) (written m e)) few written_entry).1 in
      record { across = le_antisymm x.low.across x.high.across }

few_zeros : (m k : ℕ) → 100000000 ≤ m * 10 ^ k → m * 10 ^ k ≤ 999999999 → k ≤ 9
few_zeros m k l h = omega (arith, ten_reflects {i = k} {j = 9} (omega (arith, mul-le-mul_right {m = 1} {n = m} (10 ^ k) (lt_of_mul-lt-mul_right (10 ^ k) {m = 0} (omega arith)))))

digits_few : (m k : ℕ) → m * 10 ^ k ≤ 999999999 → m ≤ 999999999
digits_few m k h = omega (arith, mul-le-mul_right {m = 1} {n = 10 ^ k} m (ten_above k))

-- A number written as m is m with zeros behind it to nine figures, and the exponent less by as many; and so is its entry.
pub written_figures : (m k : ℕ) (e : ℤ) → 100000000 ≤ m * 10 ^ k → m * 10 ^ k ≤ 999999999 → mag e ≤ 99000 → written m e ≡ number (m * 10 ^ k) (e -ℤ pos k)
unfolding written
written_figures m k e l h n =
    let v : Number = number (m * 10 ^ k) (e -ℤ pos k) in
    let s : mag e < 100000 = omega arith in
    let few : k ≤ 9 = few_zeros m k l h in
    let r : in_reach (e -ℤ pos k) ≡ true = size_reach (e -ℤ pos k) (omega (arith, mag_minus e (pos k))) in
    rounded_itself false (entry_ratio m e s) v (number_from v l h r) (entry_zeros m k e s few)

pub entry_written : (m k : ℕ) (e : ℤ) → 100000000 ≤ m * 10 ^ k → m * 10 ^ k ≤ 999999999 → mag e ≤ 99000 →
    entry m e ≡ is (pair (number (m * 10 ^ k) (e -ℤ pos k)) (number (m * 10 ^ k) (e -ℤ pos k)))
entry_written m k e l h n = written_entry m e (digits_few m k h) n ∙ ap (λ (w : Number). is (pair w w)) (written_figures m k e l h n)

-- 1, 0.000001 and 0 as entries.
pub one_entry : entry 1 (pos 0) ≡ is one_pair
unfolding one_pair one
one_entry = entry_written 1 8 (pos 0) (lit≤ tt) (lit≤ tt) (lit≤ tt)

pub zero_entry : (e : ℤ) → in_reach e ≡ true → entry 0 e ≡ is zero_pair
unfolding entry rounded zero_pair
zero_entry e h =
    provided_true (ends N.zero N.zero) (both_from (le-leb 0 most_printed (lit≤ tt)) h)
    ∙ ends_from N.zero N.zero (number_reach N.zero zero_number) (number_reach N.zero zero_number)

-- 1 less 1 is 0.
pub one_less_one : one_minus_entry 1 (pos 0) ≡ is zero_pair
unfolding one_minus_entry rest_end rounded provided ends in_reach at_most units_at lower lesser rise one zero_pair N.zero
one_less_one = refl

-- A pair whose high end is 0 is 0.
pub pair_none_is : (p : Pair) → is_pair p ≡ true → is_zero p.high ≡ true → p ≡ zero_pair
unfolding zero_pair
pair_none_is p h z =
    let o : Ordered p = ordered p h in
    ap₂ pair
    (by_cases (is_zero p.low) (zero_is p.low)
    (λ t. absurd (omega (arith, o.rising.across, mul-pos (zero_not p.low o.low t) (value_proper p.high).above_zero, ap (λ (n : ℕ). n * (value p.low).den) (zero_means p.high z)))))
    (zero_is p.high z)

-- What is a pair is passed on, and nothing else is.
pub checked_is : (p : Pair) → is_pair p ≡ true → checked p ≡ is p
unfolding checked
checked_is p h = provided_true (is p) h

pub checked_pair : (x p : Pair) → checked x ≡ is p → (is_pair x ≡ true) × (x ≡ p)
unfolding checked
checked_pair x p h =
    let t = provided_is (is_pair x) (is x) p h in
    let e : is x ≡ is p = t.1 in
    (t.0, (cc))

pub checked_refused : (x : Pair) → (is_pair x ≡ false) ↔ (checked x ≡ refused 53)
unfolding checked
checked_refused x = (
  λ h. sym (refused_as (is_pair x) (is x) (sym h)),
  λ h. by_cases (is_pair x) (λ t. never (sym h ∙ provided_true (is x) t)) (λ t. t),
)

-- 0 and 1 are pairs, and hold 0 and 1.
pub zero_pair_lem : (is_pair zero_pair ≡ true) × Holds zero_pair (record { num = 0; den = 1 })
unfolding zero_pair is_pair is_number is_zero zero_exponent at_most units_at lower lesser rise N.zero value
zero_pair_lem = (
  refl,
  record { proper = record { above_zero = lit< tt }; low = record { across = omega arith }; high = record { across = omega arith } },
)

pub one_pair_lem : (is_pair one_pair ≡ true) × Holds one_pair (record { num = 1; den = 1 })
unfolding one_pair value
one_pair_lem = (
  pair_from_lem one_pair (record { low = one_number; high = one_number; rising = below_itself (value one) }),
  record {
    proper = record { above_zero = lit< tt };
    low = record { across = omega (arith, one_value) };
    high = record { across = omega (arith, one_value) };
  },
)

-- What 0 and 1 do, as operands: nothing that is rounded.
module _ (p : Pair) (h : is_pair p ≡ true) where
  -- p + 0
  pub sum_zero : sum p zero_pair ≡ is p
  unfolding call low_end high_end with_low with_high exact_result plus value zero_pair N.zero Usable
  sum_zero = exact sums p zero_pair p h zero_pair_lem.0 tt h (record { across = omega arith }) (record { across = omega arith })

  -- 0 + p
  pub zero_sum : sum zero_pair p ≡ is p
  unfolding call low_end high_end with_low with_high exact_result plus value zero_pair N.zero Usable
  zero_sum = exact sums zero_pair p p zero_pair_lem.0 h tt h (record { across = omega arith }) (record { across = omega arith })

  -- p × 0
  pub product_zero : product p zero_pair ≡ is zero_pair
  unfolding call low_end high_end with_low with_high exact_result times value zero_pair N.zero Usable
  product_zero = exact products p zero_pair zero_pair h zero_pair_lem.0 tt zero_pair_lem.0 (record { across = omega arith }) (record { across = omega arith })

  -- 0 × p
  pub zero_product : product zero_pair p ≡ is zero_pair
  unfolding call low_end high_end with_low with_high exact_result times value zero_pair N.zero Usable
  zero_product = exact products zero_pair p zero_pair zero_pair_lem.0 h tt zero_pair_lem.0 (record { across = omega arith }) (record { across = omega arith })

  -- 0 / p
  pub zero_quotient : 0 < (value p.low).num → quotient zero_pair p ≡ is zero_pair
  unfolding call low_end high_end with_low with_high exact_result over value zero_pair N.zero Usable
  zero_quotient u = exact quotients zero_pair p zero_pair zero_pair_lem.0 h u zero_pair_lem.0 (record { across = omega arith }) (record { across = omega arith })

  -- p / 1
  pub quotient_one : quotient p one_pair ≡ is p
  unfolding call low_end high_end with_low with_high exact_result over value one_pair Usable
  quotient_one =
      exact quotients p one_pair p h one_pair_lem.0 (omega (arith, one_value, ten_above depth)) h
      (record { across = omega (arith, ap (λ (n : ℕ). p.low.significand * 10 ^ place p.low.exponent * 10 ^ depth * n) one_value) })
      (record { across = omega (arith, ap (λ (n : ℕ). p.high.significand * 10 ^ place p.high.exponent * 10 ^ depth * n) one_value) })

-- A comparison says true exactly where the first value is at most the second, and false where it is above.
pub compared_right : (a b : Number) (t : Bool) → compared a b ≡ is t → (t ≡ true → value a ≤ᶠ value b) × (t ≡ false → value b <ᶠ value a)
unfolding compared
compared_right a b t h =
    let s = provided_is (is_number a && is_number b) (is (at_most a b)) t h in
    let n = both (is_number a) (is_number b) s.0 in
    let i : is (at_most a b) ≡ is t = s.1 in
    let e : at_most a b ≡ t = cc in
    (λ g. (at_most_lem a b n.0 n.1).0 (e ∙ g), λ g. not_at_most a b n.0 n.1 (e ∙ g))

-- Two working numbers can always be compared.
pub compared_answered : (a b : Number) → is_number a ≡ true → is_number b ≡ true → compared a b ≡ is (at_most a b)
unfolding compared
compared_answered a b p q = provided_true (is (at_most a b)) (both_from p q)

-- A working number is at most itself.
pub compared_itself : (w : Number) → is_number w ≡ true → compared w w ≡ is true
compared_itself w n = compared_answered w w n n ∙ ap is ((at_most_lem w w n n).1 (below_itself (value w)))

-- n counts p in units of 10^u: the low end down, the high end up, and by less than one unit
pub record Counted (p : Pair) (u : ℤ) (n : Units) : Type 0 where
  pub low_least : scaled n.low u ≤ᶠ value p.low
  pub low_most : value p.low <ᶠ scaled (n.low + 1) u
  pub high_least : value p.high ≤ᶠ scaled n.high u
  pub high_most : scaled n.high u <ᶠ plus (value p.high) (scaled 1 u)

abbrev counts : ℕ → ℕ → Units
counts low high = record { low = low; high = high }

counted : (p : Pair) (u : ℤ) →
    Counted p u (counts (divided false (p.low.significand * 10 ^ place p.low.exponent) (10 ^ place u)) (divided true (p.high.significand * 10 ^ place p.high.exponent) (10 ^ place u)))
unfolding value scaled plus
counted p u =
    let low : ℕ = p.low.significand * 10 ^ place p.low.exponent in
    let high : ℕ = p.high.significand * 10 ^ place p.high.exponent in
    let unit : ℕ = 10 ^ place u in
    record {
      low_least = record { across = mul-le-mul_right (10 ^ depth) (down_least low unit) };
      low_most = record { across = mul-lt-mul_of_pos_right (omega (arith, down_most low unit (ten_above (place u)))) (ten_above depth) };
      high_least = record { across = mul-le-mul_right (10 ^ depth) (up_least high unit (ten_above (place u))) };
      high_most =
          record {
            across =
                omega (arith, mul-lt-mul_of_pos_right (up_most high unit (ten_above (place u))) (mul-pos (ten_above depth) (ten_above depth)));
          };
    }

record UnitsTold (p : Pair) (u : ℤ) (n : Units) : Type 0 where
  operand : is_pair p ≡ true
  reach : in_reach u ≡ true
  ends_is : n ≡ counts (units_end false p.low u) (units_end true p.high u)

units_told : (p : Pair) (u : ℤ) (n : Units) → in_units p u ≡ is n → UnitsTold p u n
unfolding in_units
units_told p u n h =
    let low : ℕ = units_end false p.low u in
    let high : ℕ = units_end true p.high u in
    let t = provided_is (is_pair p && (in_reach u && (ltb low (10 ^ 19) && ltb high (10 ^ 19)))) (is (counts low high)) n h in
    let a = both (is_pair p) (in_reach u && (ltb low (10 ^ 19) && ltb high (10 ^ 19))) t.0 in
    let b = both (in_reach u) (ltb low (10 ^ 19) && ltb high (10 ^ 19)) a.1 in
    let e : is n ≡ is (counts low high) = sym t.1 in
    record { operand = a.0; reach = b.0; ends_is = (cc) }

-- A pair counted in units of 10^u is counted down at its low end and up at its high end, by less than one unit.
pub units_right : (p : Pair) (u : ℤ) (n : Units) → in_units p u ≡ is n → Counted p u n
units_right p u n h =
    let t : UnitsTold p u n = units_told p u n h in
    let o : Ordered p = ordered p t.operand in
    rw (t.ends_is, units_divided false p.low u (working p.low o.low) (reach_mag u t.reach), units_divided true p.high u (working p.high o.high) (reach_mag u t.reach))
    (counted p u)

-- The counts lie on either side of whatever the pair holds.
pub units_hold : (p : Pair) (u : ℤ) (n : Units) (x : Fraction) → in_units p u ≡ is n → Holds p x → (scaled n.low u ≤ᶠ x) × (x ≤ᶠ scaled n.high u)
units_hold p u n x h a =
    let c : Counted p u n = units_right p u n h in
    (through (value_proper p.low) c.low_least a.low, through (value_proper p.high) a.high c.high_least)

-- The counts rise with the pair.
pub units_rise : (p q : Pair) (u : ℤ) (m n : Units) → in_units p u ≡ is m → in_units q u ≡ is n → ◌≤ₑ◌ p q → (m.low ≤ n.low) × (m.high ≤ n.high)
unfolding value scaled plus
units_rise p q u m n h k a =
    let c : Counted p u m = units_right p u m h in
    let d : Counted q u n = units_right q u n k in
    let low : m.low < n.low + 1 =
    lt_of_mul-lt-mul_right (10 ^ place u * 10 ^ depth) (omega (arith, c.low_least.across, a.low.across, d.low_most.across)) in
    let high : m.high < n.high + 1 =
    lt_of_mul-lt-mul_right (10 ^ place u * (10 ^ depth * 10 ^ depth))
    (omega (arith, c.high_most.across, mul-le-mul_right (10 ^ depth) a.high.across, mul-le-mul_right (10 ^ depth) d.high_least.across)) in
    (omega arith, omega arith)

below_next : (up : Bool) (n d : ℕ) → 0 < d → divided up n d * d < n + d
below_next false n d p = omega (arith, down_least n d)
below_next true n d p = up_most n d p

units_few : (up : Bool) (w : Number) (u : ℤ) → is_number w ≡ true → in_reach u ≡ true → value w ≤ᶠ scaled 9999999999999999999 u → units_end up w u < 10000000000000000000
unfolding value scaled
units_few up w u n r l =
    rw (units_divided up w u (working w n) (reach_mag u r))
    (lt_of_mul-lt-mul_right (10 ^ place u)
    (omega
    (arith, below_next up (w.significand * 10 ^ place w.exponent) (10 ^ place u) (ten_above (place u)), le_of_mul-le-mul_right {k = 10 ^ depth} l.across (ten_above depth))))

-- A pair is counted if its high end is at most 10^19 − 1 units.
pub units_answered : (p : Pair) (u : ℤ) → is_pair p ≡ true → in_reach u ≡ true → value p.high ≤ᶠ scaled 9999999999999999999 u → (n : Units) × (in_units p u ≡ is n)
unfolding in_units
units_answered p u h r l =
    let low : ℕ = units_end false p.low u in
    let high : ℕ = units_end true p.high u in
    let o : Ordered p = ordered p h in (
      counts low high,
      provided_true (is (counts low high))
          (both_from h (both_from r (both_from (lt-ltb low (10 ^ 19) (units_few false p.low u o.low r (through (value_proper p.high) o.rising l))) (lt-ltb high (10 ^ 19) (units_few true p.high u o.high r l))))),
    )
