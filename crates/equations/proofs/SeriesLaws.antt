-- The series on pairs: for x at most 64 the 256 terms, with the last once more at the high end, hold every exact sum of 256 terms or more.
-- `series_profile` and `series_good` alone say how large and how wide a series is. Assumes nothing.
use mathlib.Core.Path.{◌≡◌, refl, sym, ◌∙◌, ap, subst}
use mathlib.Core.Bool.{Bool, true, ◌&&◌}
use mathlib.Core.Logic.{inl, inr}
use Prim.Native.Nat.{ℕ, suc, ◌+◌, ◌*◌, ◌^◌, ◌≤◌, ◌<◌}
use native.Mathlib.Nat.{mul-le-mul_right, le_of_mul-le-mul_right, mul-pos, one-le-pow, le_dest}
use native.Mathlib.Omega.{arith}
use lib.Dec.{leb, lit<, lit≤}
use borrow.Author.Tests.{leb-true}
use Rattle.pair.specs.declared.Pair.{Pair}
use Rattle.pair.specs.Fraction.{Fraction, Proper, ◌≤ᶠ◌, plus}
use Rattle.pair.specs.Number as numbers
use Rattle.pair.specs.Number.{is_pair, value, depth}
use Rattle.pair.specs.Calls.{Outcome, is, after, after_one, zero_pair}
use Rattle.pair.specs.Promises.{sums, call, exact_result, low_end, high_end, with_low, with_high, Holds, Near}
use Rattle.pair.proofs.Promises as promises
use Rattle.pair.proofs.Promises.{Within, Usable, joint, value_proper, through, ordered, pair_from_lem, zero_pair_lem, answered_within, rounds, ends_proper, pair_again, holds}
use Rattle.pair.proofs.Widths.{near_from, near_through, near_down, near_up}
use Rattle.pair.proofs.Profiles.{Profile, Fits, Good}
use Rattle.lists.proofs.Booleans.{both}
use Rattle.equations.specs.Series.{Series, terms, from_zero, pair_series, exact_series}
use Rattle.equations.proofs.Profile.{profiles}
use Rattle.equations.proofs.Tail.{term, total, total_proper, total_half, total_small, total_least, total_most, last_small}
use Rattle.equations.proofs.Sharper.{not_double}
use Rattle.equations.proofs.SeriesTerms.{cost, terms_good, term_width, total_wide}

-- the profile of a series, from x's: 65 parts for each part of a step, two for each sum and three for the last term once more
unfoldable pub series_profile : Series → Profile → Profile
series_profile s P =
    let t = terms profiles s P 255 in
    let parts : ℕ = P.width + cost s in
    record {
      size = 500;
      width = 65 * parts + 513;
      positive = true;
      answered = t.total.answered && (leb (joint sums t.total.size t.term.size) 99991 && leb (parts * 255) 99000);
    }

pub zero_num : (value numbers.zero).num ≡ 0
unfolding value numbers.zero
zero_num = omega arith

pub zero_below : (x : Fraction) → value numbers.zero ≤ᶠ x
zero_below x = record { across = rw zero_num (omega arith) }

-- from 0 to the high end of p
unfoldable pub above_zero : Pair → Pair
above_zero p = record { low = numbers.zero; high = p.high }

pub above_zero_pair : (p : Pair) → is_pair p ≡ true → is_pair (above_zero p) ≡ true
unfolding above_zero zero_pair
above_zero_pair p h =
    pair_from_lem (above_zero p) (record { low = (ordered zero_pair zero_pair_lem.0).low; high = (ordered p h).high; rising = zero_below (value p.high) })

pub above_zero_within : (k : ℕ) (p : Pair) → Within k p → Within k (above_zero p)
unfolding above_zero
above_zero_within k p h = record { low = record { sized = inl zero_num }; high = h.high }

pub above_zero_holds : (p : Pair) {x y : Fraction} → Holds p x → Proper y → y ≤ᶠ x → Holds (above_zero p) y
unfolding above_zero
above_zero_holds p {x} {y} h q l = record { proper = q; low = zero_below y; high = through h.proper l h.high }

-- what is so near that it does not double
pub near_half : (w : ℕ) (x y : Fraction) → w ≤ 99000 → Near w x y → x.num * y.den ≤ 2 * y.num * x.den
near_half w x y few h = half (100000000 ^ w) (100000001 ^ w) (one-le-pow w 100000000 (lit< tt)) (not_double w few) h.across
  where
    half : (e m : ℕ) → 0 < e → m ≤ 2 * e → x.num * y.den * e ≤ y.num * x.den * m → x.num * y.den ≤ 2 * y.num * x.den
    half e m z i k = le_of_mul-le-mul_right {k = e} (omega (arith, k, mul-le-mul_right (y.num * x.den) i)) z

-- what is near a small enough fraction is at most half a part in 10^8
small : (w : ℕ) (x y : Fraction) → Proper y → Near w x y → w ≤ 99000 → y.num * 400000000 ≤ y.den → x.num * 200000000 ≤ x.den
small w x y p h l k =
    le_of_mul-le-mul_right {k = y.den} (omega (arith, near_half w x y l h, mul-le-mul_right x.den k)) p.above_zero

-- a sum of at least 1/2 and at most half a part in 10^8 is one part more
pub small_plus : (x y : Fraction) → x.den ≤ 2 * x.num → y.num * 200000000 ≤ y.den → Near 1 (plus x y) x
unfolding plus
small_plus x y h k = record { across = omega (arith, mul-le-mul_right (x.den * x.den) k, mul-le-mul_right (x.den * y.den) h) }

at_least_half : (x y : Fraction) → Proper x → x.den ≤ 2 * x.num → x ≤ᶠ y → y.den ≤ 2 * y.num
at_least_half x y p h k = le_of_mul-le-mul_right {k = x.den} (omega (arith, mul-le-mul_right y.den h, k.across)) p.above_zero

zero_sum : (x : Fraction) → x ≤ᶠ plus x (value numbers.zero)
unfolding plus
zero_sum x = record { across = rw zero_num (omega arith) }

zero_fraction : Fraction
zero_fraction = record { num = 0; den = 1 }

unit_above : 0 < 10 ^ depth
unit_above = one-le-pow depth 10 (lit< tt)

-- A pair that does not double and holds what is from 1/2 to g is at least 1/4 and at most 2 × g.
module _ (g b l h a d : ℕ) (few : h ≤ 2 * l) (least : d ≤ 2 * a) (most : a ≤ g * d) (low : l * d ≤ a * b) (high : a * b ≤ h * d) (above : 0 < d) where
  high_least : b ≤ 2 * h
  high_least = le_of_mul-le-mul_right {k = d} (omega (arith, high, mul-le-mul_right b least)) above

  low_least : b ≤ 4 * l
  low_least = omega (arith, high_least, few)

  low_most : l ≤ g * b
  low_most = le_of_mul-le-mul_right {k = d} (omega (arith, low, mul-le-mul_right b most)) above

  ends_sized : (t : ℕ) → 4 ≤ t → 2 * g ≤ t → (b ≤ l * t) × (l ≤ b * t) × (b ≤ h * t) × (h ≤ b * t)
  ends_sized t i k = (
    omega (arith, low_least, mul-le-mul_right l i),
    omega (arith, low_most, mul-le-mul_right b k),
    omega (arith, high_least, mul-le-mul_right h i),
    omega (arith, low_most, few, mul-le-mul_right b k),
  )

-- The series on pairs: the sum T of the terms, and the high end of the last term t once more.
record Last (s : Series) (c j k : ℕ) (T t : Pair) (x : Fraction) : Type 0 where
  whole : is_pair T ≡ true
  last : is_pair t ≡ true
  whole_within : Within j T
  last_within : Within k t
  size : joint sums j k ≤ 99991
  whole_wide : Near (255 + (65 * c + 255)) (value T.high) (value T.low)
  last_wide : Near (c * 255) (value t.high) (value t.low)
  few : c * 255 ≤ 99000
  whole_held : Holds T (total s x 255)
  last_held : Holds t (term s x 255)
  proper : Proper x
  most : x.num ≤ 64 * x.den

module _ (s : Series) (c j k : ℕ) (T t : Pair) (x : Fraction) (l : Last s c j k T t x) where
  sum_answered : (r : Pair) × (call sums T (above_zero t) ≡ is r)
  unfolding Usable
  sum_answered =
      let a = answered_within sums j k T (above_zero t) l.whole (above_zero_pair t l.last) tt l.whole_within (above_zero_within k t l.last_within) l.size in
      (a.0, a.1)

  module _ (r : Pair) (h : call sums T (above_zero t) ≡ is r) where
    sum_least : value r.low ≤ᶠ total s x 255
    unfolding exact_result plus zero_fraction
    sum_least =
        let z : zero_fraction ≤ᶠ term s x 255 = record { across = omega arith } in
        let a : Holds r (exact_result sums (total s x 255) zero_fraction) =
        holds sums T (above_zero t) r (total s x 255) zero_fraction h l.whole_held
        (above_zero_holds t l.last_held (record { above_zero = lit< tt }) z) in
        through a.proper a.low (record { across = omega arith })

    sum_most : plus (total s x 255) (term s x 255) ≤ᶠ value r.high
    unfolding exact_result
    sum_most =
        (holds sums T (above_zero t) r (total s x 255) (term s x 255) h l.whole_held
        (above_zero_holds t l.last_held l.last_held.proper (promises.below_itself (term s x 255)))).high

    sum_wide : Near (65 * c + 513) (value r.high) (value r.low)
    unfolding low_end high_end with_low with_high exact_result above_zero
    sum_wide =
        let d = rounds sums T (above_zero t) r h in
        let m = ends_proper sums T (above_zero t) r h in
        let low : (value t.high).num * 200000000 ≤ (value t.high).den =
        small (c * 255 + 0) (value t.high) (term s x 255) l.last_held.proper
        (near_through (value_proper t.low) l.last_wide (near_from l.last_held.low))
        (omega (arith, l.few)) (last_small s l.proper l.most) in
        let half : (value T.high).den ≤ 2 * (value T.high).num =
        at_least_half (total s x 255) (value T.high) l.whole_held.proper (total_half s x 255) l.whole_held.high in
        rw (parts_of (65 * c)) at
        (near_through m.1 (near_up d.1)
        (near_through (value_proper T.high) (small_plus (value T.high) (value t.high) half low)
        (near_through (value_proper T.low) l.whole_wide
        (near_through m.0 (near_from (zero_sum (value T.low))) (near_down d.0)))))
      where
        parts_of : (n : ℕ) → 1 + (1 + (255 + (n + 255) + (0 + 1))) ≡ n + 513
        parts_of n = omega arith

    -- It holds every sum of 256 terms or more.
    sum_holds : (i : ℕ) → Holds r (total s x (255 + i))
    sum_holds i =
        record {
          proper = total_proper s l.proper (255 + i);
          low = through l.whole_held.proper sum_least (total_least s l.proper 255 i);
          high = through both_proper (total_most s l.proper l.most 255 i (lit≤ tt)) sum_most;
        }
      where
        both_proper : Proper (plus (total s x 255) (term s x 255))
        both_proper = unfold plus in record { above_zero = mul-pos l.whole_held.proper.above_zero l.last_held.proper.above_zero }

    -- It lies between 10^−500 and 10^500: it holds what is from 1/2 to 65^255 and is narrow.
    sum_within : Within 500 r × (0 < (value r.low).num)
    unfolding value
    sum_within =
        let y : Fraction = total s x (255 + 0) in
        let q : Holds r y = sum_holds 0 in
        let L : ℕ = (value r.low).num in
        let H : ℕ = (value r.high).num in
        let half : H ≤ 2 * L =
        le_of_mul-le-mul_right {k = 10 ^ depth} (omega (arith, near_half (65 * c + 513) (value r.high) (value r.low) (omega (arith, l.few)) sum_wide)) unit_above in
        let e = ends_sized (65 ^ 255) (10 ^ depth) L H y.num y.den half (total_half s x (255 + 0)) (total_small s l.proper l.most 255)
        q.low.across q.high.across q.proper.above_zero (10 ^ 500) (lit≤ tt) (lit≤ tt) in
        let least : 10 ^ depth ≤ 4 * L =
        low_least (65 ^ 255) (10 ^ depth) L H y.num y.den half (total_half s x (255 + 0)) (total_small s l.proper l.most 255) q.low.across q.high.across q.proper.above_zero in (
          record { low = record { sized = inr (e.0, e.1) }; high = record { sized = inr (e.2, e.3) } },
          omega (arith, least, unit_above),
        )

    sum_fits : (told : Bool) → Fits (record { size = 500; width = 65 * c + 513; positive = true; answered = told }) r
    sum_fits told = record { pair = pair_again sums T (above_zero t) r h; within = sum_within.0; wide = sum_wide; positive = λ y. sum_within.1 }

pub series_is : (s : Series) (x : Fraction) (N : ℕ) → 256 ≤ N → (k : ℕ) × (exact_series s N x ≡ total s x (255 + k))
series_is s x N h = go (le_dest h)
  where
    next : (k : ℕ) → 256 + k ≡ suc (255 + k)
    next k = omega arith

    go : (k : ℕ) × (256 + k ≡ N) → (k : ℕ) × (exact_series s N x ≡ total s x (255 + k))
    go (k, e) = (k, ap (λ (n : ℕ). exact_series s n x) (sym e ∙ next k) ∙ (unfold exact_series in refl))

pub series_proper : (s : Series) {x : Fraction} → Proper x → (N : ℕ) → 256 ≤ N → 0 < (exact_series s N x).den
series_proper s {x} p N h = let k = series_is s x N h in rw k.1 (total_proper s p (255 + k.0)).above_zero

-- A series is answered, fits its profile and holds the exact series of every N from 256 up.
pub series_good : (s : Series) (P : Profile) {o : Outcome Pair} {x : Fraction} (g : Good P o x) → value g.answer.high ≤ᶠ record { num = 64; den = 1 } →
    (series_profile s P).answered ≡ true → (N : ℕ) → 256 ≤ N → Good (series_profile s P) (pair_series s o) (exact_series s N x)
unfolding series_profile pair_series after after_one from_zero call above_zero
series_good s P {o} {x} g most h N n =
    let W : Profile = (terms profiles s P 255).total in
    let L : Profile = (terms profiles s P 255).term in
    let c : ℕ = P.width + cost s in
    let a = both W.answered (leb (joint sums W.size L.size) 99991 && leb (c * 255) 99000) h in
    let b = both (leb (joint sums W.size L.size) 99991) (leb (c * 255) 99000) a.1 in
    let few : c * 255 ≤ 99000 = leb-true (c * 255) 99000 b.1 in
    let d = terms_good s P g 255 a.0 in
    let T : Pair = d.1.answer in
    let t : Pair = d.0.answer in
    let v : x ≤ᶠ record { num = 64; den = 1 } = through (value_proper g.answer.high) g.held.high most in
    let l : Last s c W.size L.size T t x =
    record {
      whole = d.1.fits.pair;
      last = d.0.fits.pair;
      whole_within = d.1.fits.within;
      last_within = d.0.fits.within;
      size = leb-true (joint sums W.size L.size) 99991 b.0;
      whole_wide = total_wide s P g most 255 (lit≤ tt) a.0 few T d.1.told;
      last_wide = subst (λ (w : ℕ). Near w (value t.high) (value t.low)) (term_width s P 255) d.0.fits.wide;
      few = few;
      whole_held = d.1.held;
      last_held = d.0.held;
      proper = g.held.proper;
      most = omega (arith, v.across);
    } in
    let r = sum_answered s c W.size L.size T t x l in
    let k = series_is s x N n in
    record {
      answer = r.0;
      told = rw (d.1.told, d.0.told) r.1;
      fits = sum_fits s c W.size L.size T t x l r.0 r.1 (series_profile s P).answered;
      held = rw k.1 (sum_holds s c W.size L.size T t x l r.0 r.1 k.0);
    }
