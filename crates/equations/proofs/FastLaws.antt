-- Where the loss is fast, the high end of the exponent above 64: 1 / φ lies between 0 and 1E-25, and g and h by the rule hold the exact ones
-- of every N from 256 up. They are far narrower than by the series: 1 / φ is too small to widen x, and g is at most 1/2, so that 1 − g is no
-- wider than g. Assumes nothing.
use mathlib.Core.Path.{◌≡◌, refl, subst}
use mathlib.Core.Bool.{true, false}
use Prim.Native.Nat.{ℕ, ◌+◌, ◌*◌, ◌-◌, ◌^◌, ◌≤◌, ◌<◌}
use native.Mathlib.Nat.{mul-le-mul_right, le_of_mul-le-mul_right, mul-pos, one-le-pow, le_dest, pow-le-pow_left}
use native.Mathlib.Omega.{arith}
use lib.Dec.{lit<, lit≤}
use lib.IntN.{pos, negsuc}
use Rattle.pair.specs.declared.Number.{Number}
use Rattle.pair.specs.declared.Pair.{Pair}
use Rattle.pair.specs.Fraction.{Fraction, Proper, ◌≤ᶠ◌, plus, over, rest}
use Rattle.pair.specs.Number.{is_pair, value, place, depth}
use Rattle.pair.specs.Calls.{Outcome, is, written, after, after_one, one_minus}
use Rattle.pair.specs.Promises.{sums, quotients, call, exact_result, low_end, high_end, with_low, with_high, Holds, scaled, Near, spread}
use Rattle.pair.proofs.Promises.{Within, Usable, joint, value_proper, ordered, answered_within, rounds, ends_proper, pair_again, holds, written_entry, written_value, rest_answered, rest_rounds, rest_pair, rest_within, rest_holds}
use Rattle.pair.proofs.Widths.{near_from, near_through, near_above, near_down, near_up, two_more}
use Rattle.pair.proofs.Profiles.{Profile, of_number, positives, usable, joined, Fits, Good, down_is, good_op, good_number, answered_as}
use Rattle.equations.specs.Formula.{pairs, fractions}
use Rattle.equations.specs.Series.{phi, exact_series}
use Rattle.equations.specs.Page.{Fast, g_with, growth}
use Rattle.equations.specs.Ranges.{next_to_nothing}
use Rattle.equations.specs.Readings.{pair_growing, exact_growing}
use Rattle.equations.proofs.Tail.{place_zero}
use Rattle.equations.proofs.SeriesLaws.{series_proper, zero_num, above_zero, above_zero_pair, above_zero_within, above_zero_holds, near_half, small_plus}
use Rattle.equations.proofs.Large.{phi_large}

-- ---- 1 / φ
-- 1E-25
tiny_pair : Pair
tiny_pair = record { low = written 1 (negsuc 24); high = written 1 (negsuc 24) }

tiny_good : Good (of_number 1 (negsuc 24)) (is tiny_pair) (scaled 1 (negsuc 24))
unfolding of_number tiny_pair
tiny_good = subst (λ (o : Outcome Pair). Good (of_number 1 (negsuc 24)) o (scaled 1 (negsuc 24))) (written_entry 1 (negsuc 24) (lit≤ tt) (lit≤ tt)) (good_number 1 (negsuc 24) refl)

tiny_fits : Fits (of_number 1 (negsuc 24)) tiny_pair × Holds tiny_pair (scaled 1 (negsuc 24))
tiny_fits =
    let i : is tiny_pair ≡ is tiny_good.answer = tiny_good.told in
    let e : tiny_good.answer ≡ tiny_pair = cc in
    (subst (λ (q : Pair). Fits (of_number 1 (negsuc 24)) q) e tiny_good.fits, subst (λ (q : Pair). Holds q (scaled 1 (negsuc 24))) e tiny_good.held)

pub next_pair : is_pair next_to_nothing ≡ true
unfolding next_to_nothing above_zero tiny_pair
next_pair = above_zero_pair tiny_pair tiny_fits.0.pair

next_within : Within 34 next_to_nothing
unfolding next_to_nothing above_zero tiny_pair of_number
next_within = above_zero_within 34 tiny_pair tiny_fits.0.within

-- at most half a part in 10^8
next_small : (value next_to_nothing.high).num * 200000000 ≤ (value next_to_nothing.high).den
unfolding next_to_nothing scaled
next_small =
    shift (value (written 1 (negsuc 24))).num (value (written 1 (negsuc 24))).den (10 ^ place (negsuc 24)) (10 * 10 ^ 24) (one-le-pow (place (negsuc 24)) 10 (lit< tt)) (lit≤ tt)
    (rw (← (down_is 24 (lit≤ tt))) at (written_value 1 (negsuc 24) (lit≤ tt) (lit≤ tt)).across)
  where
    shift : (n d a t : ℕ) → 0 < a → 200000000 ≤ t → n * (a * t) ≡ 1 * a * d → n * 200000000 ≤ d
    shift n d a t z h e = le_of_mul-le-mul_right {k = a} (omega (arith, e, mul-le-mul_right (n * a) h)) z

-- For x from 63 up the exact 1 / φ lies between 0 and 1E-25.
inverse : ℕ → Fraction → Fraction
inverse N v = fractions.over (fractions.number 1 (pos 0)) (exact_series phi N v)

module _ {v : Fraction} (p : Proper v) (least : 63 * v.den ≤ v.num) (N : ℕ) (n : 256 ≤ N) where
  phi_above : 0 < (exact_series phi N v).den × 0 < (exact_series phi N v).num
  phi_above =
      let d = series_proper phi p N n in
      (d, above (10 ^ 25) (exact_series phi N v).num (exact_series phi N v).den (phi_large p least N n) (lit< tt) d)
    where
      above : (t f d : ℕ) → t * d ≤ f → 0 < t → 0 < d → 0 < f
      above t f d h y z = omega (arith, mul-pos y z)

  next_holds : Holds next_to_nothing (inverse N v)
  unfolding next_to_nothing above_zero tiny_pair inverse fractions over scaled
  next_holds =
      above_zero_holds tiny_pair tiny_fits.1 (record { above_zero = mul-pos (one-le-pow depth 10 (lit< tt)) phi_above.1 })
      (record { across = rw (place_zero, ← (down_is 24 (lit≤ tt))) (small (10 ^ place (negsuc 24)) (10 * 10 ^ 24) (exact_series phi N v).num (exact_series phi N v).den (phi_large p least N n)) })
    where
      small : (a t f d : ℕ) → t * d ≤ f → 1 * (a * t) * d * (a * t) ≤ 1 * a * (a * t * f)
      small a t f d h = omega (arith, mul-le-mul_right (a * a * t) h)

-- ---- g: an exponent X of which the low end is at least 63
small_before : (x y : Fraction) → y.den ≤ 2 * y.num → x.num * 200000000 ≤ x.den → Near 1 (plus x y) y
unfolding plus
small_before x y h k = record { across = omega (arith, (small_plus y x h k).across) }

nothing_before : (x y : Fraction) → x.num ≡ 0 → y ≤ᶠ plus x y
unfolding plus
nothing_before x y e = record { across = rw e (omega arith) }

after_any : (x y : Fraction) → y ≤ᶠ plus x y
unfolding plus
after_any x y = record { across = omega arith }

-- what is not below one from 63 up is from 63 up
least_on : {x y : Fraction} → Proper x → 63 * x.den ≤ x.num → x ≤ᶠ y → 63 * y.den ≤ y.num
least_on {x} {y} p h l = le_of_mul-le-mul_right {k = x.den} (omega (arith, mul-le-mul_right y.den h, l.across)) p.above_zero

-- an exponent's profile: x's and x''s
abbrev pub of_exponent : Profile
of_exponent = answered_as 222 40 false

module _ {q : Pair} {v : Fraction} (fits : Fits of_exponent q) (held : Holds q v) (least : 63 * (value q.low).den ≤ (value q.low).num) (N : ℕ) (n : 256 ≤ N) where
  low_above : 0 < (value q.low).num
  low_above = omega (arith, least, (value_proper q.low).above_zero)

  exact_least : 63 * v.den ≤ v.num
  exact_least = least_on (value_proper q.low) least held.low

  x_good : Good (answered_as 222 40 true) (is q) v
  x_good = record { answer = q; told = refl; fits = record { pair = fits.pair; within = fits.within; wide = fits.wide; positive = λ t. low_above }; held = held }

  sum_good : Good (answered_as 223 43 true) (call sums next_to_nothing q) (plus (inverse N v) v)
  unfolding exact_result joint Usable low_end high_end with_low with_high
  sum_good =
      let a = answered_within sums 34 222 next_to_nothing q next_pair fits.pair tt next_within fits.within (lit≤ tt) in
      let r : Pair = a.0 in
      let d = rounds sums next_to_nothing q r a.1 in
      let m = ends_proper sums next_to_nothing q r a.1 in
      let low : value q.low ≤ᶠ plus (value next_to_nothing.low) (value q.low) = nothing_before (value next_to_nothing.low) (value q.low) (unfold next_to_nothing in zero_num) in
      record {
        answer = r;
        told = a.1;
        fits =
            record {
              pair = pair_again sums next_to_nothing q r a.1;
              within = a.2;
              wide =
                  near_through m.1 (near_up d.1)
                  (near_through (value_proper q.high) (small_before (value next_to_nothing.high) (value q.high) high_half next_small)
                  (near_through (value_proper q.low) fits.wide
                  (near_through m.0 (near_from low) (near_down d.0))));
              positive = λ t. near_above (value_proper r.low) (near_down d.0) (near_above m.0 (near_from low) low_above);
            };
        held = holds sums next_to_nothing q r (inverse N v) v a.1 (next_holds held.proper exact_least N n) held;
      }
    where
      high_half : (value q.high).den ≤ 2 * (value q.high).num
      high_half = omega (arith, least_on (value_proper q.low) least (ordered q fits.pair).rising)

  g_good : Good (answered_as 233 45 true) (growth pair_growing Fast (is q)).g (growth (exact_growing N) Fast v).g
  unfolding growth g_with pair_growing exact_growing pairs fractions inverse of_number joined joint spread positives usable call exact_result after
  g_good = good_op quotients (of_number 1 (pos 0)) (answered_as 223 43 true) (good_number 1 (pos 0) refl) sum_good refl

  one_over : (y : Fraction) → 63 * y.den ≤ y.num → 63 * (fractions.over (fractions.number 1 (pos 0)) y).num ≤ (fractions.over (fractions.number 1 (pos 0)) y).den
  unfolding fractions over scaled
  one_over y h = rw place_zero (small (10 ^ depth) y.num y.den h)
    where
      small : (t a b : ℕ) → 63 * b ≤ a → 63 * (1 * t * b) ≤ t * a
      small t a b h = omega (arith, mul-le-mul_right t h)

  -- the exact g is at most 1/63, and g's high end at most 1/2
  exact_small : 63 * (growth (exact_growing N) Fast v).g.num ≤ (growth (exact_growing N) Fast v).g.den
  unfolding growth g_with exact_growing inverse fractions
  exact_small = one_over (plus (inverse N v) v) (least_on held.proper exact_least (after_any (inverse N v) v))

  g_half : (value g_good.answer.high).num * 2 ≤ (value g_good.answer.high).den
  g_half =
      let u : Fraction = value g_good.answer.high in
      let l : Fraction = value g_good.answer.low in
      let e : Fraction = (growth (exact_growing N) Fast v).g in
      half u.num u.den l.num l.den e.num e.den (value_proper g_good.answer.low).above_zero g_good.held.proper.above_zero
      (near_half 45 u l (lit≤ tt) g_good.fits.wide) g_good.held.low.across exact_small
    where
      half : (u d l c e b : ℕ) → 0 < c → 0 < b → u * c ≤ 2 * l * d → l * b ≤ e * c → 63 * e ≤ b → u * 2 ≤ d
      half u d l c e b y z i j k =
          let f : 63 * l ≤ c = le_of_mul-le-mul_right {k = b} (omega (arith, j, mul-le-mul_right c k)) z in
          le_of_mul-le-mul_right {k = c} (omega (arith, i, mul-le-mul_right d f)) y

-- ---- 1 − g: where f's high end is at most 1/2, 1 less its low end is as near to 1 less its high end as f's own ends are
rest_across : (a b d e m : ℕ) → b * 2 ≤ d → a ≤ b → e ≤ m → 0 < d → b * d * e ≤ a * d * m → (d - a) * d * e ≤ (d - b) * d * m
rest_across a b d e m h l k z near =
    let few : a + b ≤ d = omega arith in
    let s = le_dest few in
    let t = le_dest k in
    let i : b * e ≤ a * m = le_of_mul-le-mul_right {k = d} (omega (arith, near)) z in
    let low : d - a ≡ b + s.0 = omega (arith, s.1) in
    let high : d - b ≡ a + s.0 = omega (arith, s.1) in
    rw (low, high) (mul_le_across (b + s.0) (a + s.0) d e m (apart s.0 t.0 t.1 i))
  where
    apart : (s t : ℕ) → e + t ≡ m → b * e ≤ a * m → (b + s) * e ≤ (a + s) * m
    apart s t o i = omega (arith, i, mul-le-mul_right s k)

    mul_le_across : (p q d e m : ℕ) → p * e ≤ q * m → p * d * e ≤ q * d * m
    mul_le_across p q d e m j = omega (arith, mul-le-mul_right d j)

rest_near : (w : ℕ) (f : Pair) → (value f.high).num * 2 ≤ (value f.high).den → is_pair f ≡ true → Near w (value f.high) (value f.low) → Near w (rest (value f.low)) (rest (value f.high))
unfolding rest value
rest_near w f h p k =
    record {
      across =
          rest_across (value f.low).num (value f.high).num (10 ^ depth) (100000000 ^ w) (100000001 ^ w) h
          (le_of_mul-le-mul_right {k = 10 ^ depth} (ordered f p).rising.across unit_above) (pow-le-pow_left {n = 100000000} {m = 100000001} (lit≤ tt) w) unit_above k.across;
    }
  where
    unit_above : 0 < 10 ^ depth
    unit_above = one-le-pow depth 10 (lit< tt)

rest_good : (w : ℕ) {o : Outcome Pair} {x : Fraction} (g : Good (answered_as 233 w true) o x) → (value g.answer.high).num * 2 ≤ (value g.answer.high).den →
    Good (answered_as 9 (w + 2) true) (after_one one_minus o) (rest x)
unfolding after_one
rest_good w {o} {x} g h =
    let f : Pair = g.answer in
    let a = rest_answered f g.fits.pair (omega (arith, h)) in
    let r : Pair = a.0 in
    let d = rest_rounds f r a.1 in
    let u : (value f.high).num < (value f.high).den = omega (arith, h, (value_proper f.high).above_zero) in
    record {
      answer = r;
      told = rw g.told a.1;
      fits =
          record {
            pair = rest_pair f r a.1;
            within = rest_within f r a.1;
            wide = two_more (proper f.low) (proper f.high) (near_up d.1) (rest_near w f h g.fits.pair g.fits.wide) (near_down d.0);
            positive = λ t. near_above (value_proper r.low) (near_down d.0) (left (value f.high) u);
          };
      held = rest_holds f r x a.1 g.held;
    }
  where
    proper : (v : Number) → Proper (rest (value v))
    proper v = unfold rest in record { above_zero = (value_proper v).above_zero }

    left : (y : Fraction) → y.num < y.den → 0 < (rest y).num
    left y u = unfold rest in omega (arith, u)

-- ---- h
module _ {q : Pair} {v : Fraction} (fits : Fits of_exponent q) (held : Holds q v) (least : 63 * (value q.low).den ≤ (value q.low).num) (N : ℕ) (n : 256 ≤ N) where
  pub fast_g : Good (answered_as 233 45 true) (growth pair_growing Fast (is q)).g (growth (exact_growing N) Fast v).g
  fast_g = g_good fits held least N n

  pub fast_h : Good (answered_as 231 89 true) (growth pair_growing Fast (is q)).h (growth (exact_growing N) Fast v).h
  unfolding growth pair_growing exact_growing pairs fractions joined joint spread positives usable call exact_result
  fast_h = good_op quotients (answered_as 9 47 true) (answered_as 222 40 true) (rest_good 45 (g_good fits held least N n) (g_half fits held least N n)) (x_good fits held least N n) refl
