-- Each exact end as one ratio n / d × 10^e, so that the law of rounding applies to it: a sum's, a product's and a quotient's, the one of
-- 1 − f and an entry's; and an end counted in units as one division. Assumes nothing.
use mathlib.Core.Path.{◌≡◌, refl, sym, ◌∙◌, ap, ap₂}
use mathlib.Core.Bool.{Bool, true, false}
use mathlib.Core.Logic.{◌⊎◌, inl, inr}
use Prim.Native.Nat.{ℕ, zero, suc, ◌+◌, ◌-◌, ◌*◌, ◌%◌, ◌^◌, ◌≤◌, ◌<◌}
use native.Mathlib.Nat.{mul-le-mul_right, lt_of_mul-lt-mul_right, mul-pos, eq-zero-or-pos, mul-sub, mul_comm, mul-mod_left, le_dest, le_antisymm, add-zero}
use native.Mathlib.Omega.{arith}
use lib.Dec.{ltb, lit<}
use lib.IntN.{ℤ, pos, negsuc, ◌+ℤ◌, ◌-ℤ◌, sub_ℕ}
use lib.Signed.{mag}
use borrow.Author.Tests.{ltb-true, ltb-false}
use Rattle.pair.specs.declared.Number.{Number}
use Rattle.pair.specs.Fraction.{plus, times, over, rest}
use Rattle.pair.specs.Number as N
use Rattle.pair.specs.Number.{lesser, rise, is_number, is_zero, zero_exponent, nine_figures, in_reach, units_at, lower, depth, place, value, one}
use Rattle.pair.specs.Rounding.{extra, divided, excess, carried, rounded, units_end}
use Rattle.pair.specs.Promises.{Operation, sums, products, quotients, exact_result, scaled, Sized, Rounded}
use Rattle.pair.proofs.Exponents.{by_cases, place_plus, place_minus}
use Rattle.pair.proofs.Powers.{ten_above, ten_add, ten_rises, ten_reflects}
use Rattle.pair.proofs.Excess.{Beyond, excess_beyond}
use Rattle.pair.proofs.Dividing.{divided_same}
use Rattle.pair.proofs.Fractions.{◌=ᶠ◌, Usable}
use Rattle.pair.proofs.Alignment.{Small, lesser_below, units_scaled}
use Rattle.pair.proofs.Ordered.{Working, working, Aligned, aligned, depth_is, size_small, power_rise}
use Rattle.pair.proofs.Nearest.{Ratio, rounded_nearest, rounded_reach, rounded_itself, zero_significand}

pub place_size : (e : ℤ) → mag e < 100000 → (depth ≤ place e + 100000) × (place e < depth + 100000)
unfolding depth place
place_size (pos n) h = (omega arith, omega arith)
place_size (negsuc n) h = (omega arith, omega arith)

place_near : (e : ℤ) → mag e ≤ 99000 → (depth ≤ place e + 99001) × (place e ≤ depth + 99000)
unfolding depth place
place_near (pos n) h = (omega arith, omega arith)
place_near (negsuc n) h = (omega arith, omega arith)

size_from : (e : ℤ) → depth ≤ place e + 200000 → place e ≤ depth + 200000 → mag e < 200100
unfolding depth place
size_from (pos n) l h = omega arith
size_from (negsuc n) l h = omega arith

some_or_none : (n : ℕ) → (n ≡ 0) ⊎ (1 * 100000000 ≤ n * 1000000000)
some_or_none n = go (eq-zero-or-pos n)
  where
    go : (n ≡ 0) ⊎ (0 < n) → (n ≡ 0) ⊎ (1 * 100000000 ≤ n * 1000000000)
    go (inl z) = inl z
    go (inr p) = inr (omega arith)

-- the numerator, the divisor and the exponent of an end
unfoldable pub top : Operation → Number → Number → ℕ
top sums a b = units_at (lower a b) a + units_at (lower a b) b
top products a b = a.significand * b.significand
top quotients a b = a.significand

unfoldable pub bottom : Operation → Number → Number → ℕ
bottom sums a b = 1
bottom products a b = 1
bottom quotients a b = b.significand

unfoldable pub power : Operation → Number → Number → ℤ
power sums a b = lower a b
power products a b = a.exponent +ℤ b.exponent
power quotients a b = a.exponent -ℤ b.exponent

-- one end, rounded
unfoldable pub end_of : Operation → Bool → Number → Number → Number
end_of o up a b = rounded up (top o a b) (bottom o a b) (power o a b)

pub end_ratio : (o : Operation) (a b : Number) → Working a → Working b → Usable o (value b) → Ratio (exact_result o (value a) (value b)) (top o a b) (bottom o a b) (power o a b)
unfolding top bottom power exact_result plus times over value Usable
end_ratio sums a b p q u =
    let l : Aligned (lower a b) a b = aligned a b p q in
    record {
      proper = mul-pos (ten_above depth) (ten_above depth);
      divisor = lit< tt;
      size = omega (arith, l.small.small);
      link = omega (arith, ap (λ (n : ℕ). n * (10 ^ depth * 10 ^ depth)) l.first, ap (λ (n : ℕ). n * (10 ^ depth * 10 ^ depth)) l.second);
      figures = some_or_none (units_at (lower a b) a + units_at (lower a b) b);
    }
end_ratio products a b p q u =
    let e : place (a.exponent +ℤ b.exponent) + depth ≡ place a.exponent + place b.exponent =
    place_plus a.exponent b.exponent (omega (arith, depth_is, p.reach, q.reach)) in
    let t : 10 ^ place (a.exponent +ℤ b.exponent) * 10 ^ depth ≡ 10 ^ place a.exponent * 10 ^ place b.exponent =
    sym (ten_add (place (a.exponent +ℤ b.exponent)) depth) ∙ ap (λ (i : ℕ). 10 ^ i) e ∙ ten_add (place a.exponent) (place b.exponent) in
    record {
      proper = mul-pos (ten_above depth) (ten_above depth);
      divisor = lit< tt;
      size =
          size_from (a.exponent +ℤ b.exponent)
          (omega (arith, e, depth_is, place_size a.exponent p.reach, place_size b.exponent q.reach))
          (omega (arith, e, depth_is, place_size a.exponent p.reach, place_size b.exponent q.reach));
      link = omega (arith, ap (λ (n : ℕ). n * (a.significand * b.significand * 10 ^ depth)) t);
      figures = some_or_none (a.significand * b.significand);
    }
end_ratio quotients a b p q u =
    let e : place (a.exponent -ℤ b.exponent) + place b.exponent ≡ place a.exponent + depth =
    place_minus a.exponent b.exponent (omega (arith, depth_is, p.reach, q.reach)) in
    let t : 10 ^ place (a.exponent -ℤ b.exponent) * 10 ^ place b.exponent ≡ 10 ^ place a.exponent * 10 ^ depth =
    sym (ten_add (place (a.exponent -ℤ b.exponent)) (place b.exponent)) ∙ ap (λ (i : ℕ). 10 ^ i) e ∙ ten_add (place a.exponent) depth in
    record {
      proper = mul-pos (ten_above depth) u;
      divisor = lt_of_mul-lt-mul_right (10 ^ place b.exponent) {m = 0} (omega arith);
      size =
          size_from (a.exponent -ℤ b.exponent)
          (omega (arith, e, depth_is, place_size a.exponent p.reach, place_size b.exponent q.reach))
          (omega (arith, e, depth_is, place_size a.exponent p.reach, place_size b.exponent q.reach));
      link = omega (arith, ap (λ (n : ℕ). n * (a.significand * b.significand * 10 ^ depth)) t);
      figures = go p.least;
    }
  where
    go : (a ≡ N.zero) ⊎ (100000000 ≤ a.significand) → (a.significand ≡ 0) ⊎ (b.significand * 100000000 ≤ a.significand * 1000000000)
    go (inl z) = inl (ap (λ (w : Number). w.significand) z ∙ zero_significand)
    go (inr l) = inr (omega (arith, q.most))

-- 1 is 10^depth over 10^depth
place_one : 8 + place (negsuc 7) ≡ depth
unfolding depth place
place_one = refl

pub one_value : one.significand * 10 ^ place one.exponent ≡ 10 ^ depth
unfolding one
one_value = sym (ten_add 8 (place (negsuc 7))) ∙ ap (λ (i : ℕ). 10 ^ i) place_one

pub one_number : is_number one ≡ true
unfolding is_number is_zero zero_exponent nine_figures in_reach one
one_number = refl

rest_link : (u v s a b p c : ℕ) → u * s ≡ a → v * s ≡ b → a ≡ c → (c - b) * (1 * p) ≡ (u - v) * (p * s)
rest_link u v s a b p c i j h =
    turn (u - v) s (c - b) p (mul_comm (u - v) s ∙ mul-sub s u v ∙ ap₂ ◌-◌ (mul_comm s u ∙ i ∙ h) (mul_comm s v ∙ j))
  where
    turn : (d s t p : ℕ) → d * s ≡ t → t * (1 * p) ≡ d * (p * s)
    turn d s t p e = omega (arith, ap (λ (n : ℕ). n * p) e)

pub place_whole : place (pos 0) ≡ depth
unfolding place
place_whole = add-zero depth

pub whole_small : Small (pos 0)
whole_small = record { small = lit< tt }

pub rest_ratio : (f : Number) → mag f.exponent < 100000 →
    Ratio (rest (value f)) (10 ^ rise (lesser f.exponent (pos 0)) (pos 0) - units_at (lesser f.exponent (pos 0)) f) 1 (lesser f.exponent (pos 0))
unfolding rest value
rest_ratio f h =
    let s : ℤ = lesser f.exponent (pos 0) in
    let x : Small f.exponent = size_small h in
    let l = lesser_below x whole_small in
    record {
      proper = ten_above depth;
      divisor = lit< tt;
      size = omega (arith, l.0.small);
      link =
          rest_link (10 ^ rise s (pos 0)) (units_at s f) (10 ^ place s) (10 ^ place (pos 0)) (f.significand * 10 ^ place f.exponent) (10 ^ depth) (10 ^ depth)
          (power_rise s (pos 0) l.0 whole_small l.2) (units_scaled f s x l.0 l.1) (ap (λ (i : ℕ). 10 ^ i) place_whole);
      figures = some_or_none (10 ^ rise s (pos 0) - units_at s f);
    }

-- what m units of 10^p, with m of k figures at most, leave of 10^c is 0 or at least the 10^k-th part of it
rest_least : (k m p c : ℕ) → 0 < k → m < 10 ^ k → m * 10 ^ p < 10 ^ c → 10 ^ c ≤ (10 ^ c - m * 10 ^ p) * 10 ^ k
rest_least k m p c z h l =
    by_cases (ltb (k + p) c)
    (λ t. far (ten_rises {i = 1 + (k + p)} (next (ltb-true (k + p) c t))))
    (λ t. by_cases (ltb c p) (λ u. high (ltb-true c p u)) (λ u. near (le_dest (ltb-false c p u)) (ten_rises (ltb-false (k + p) c t))))
  where
    next : k + p < c → 1 + (k + p) ≤ c
    next i = omega arith

    -- far below 1, so that most is left
    far : 10 ^ (1 + (k + p)) ≤ 10 ^ c → 10 ^ c ≤ (10 ^ c - m * 10 ^ p) * 10 ^ k
    far a =
        omega
        (arith, ten_add 1 (k + p), ten_add k p, mul-le-mul_right (10 ^ p) h, mul-le-mul_right {m = 2} {n = 10 ^ k} (10 ^ c - m * 10 ^ p) (omega (arith, ten_rises {i = 1} {j = k} z)))

    -- nothing is taken
    high : c < p → 10 ^ c ≤ (10 ^ c - m * 10 ^ p) * 10 ^ k
    high a =
        let none : m ≡ 0 = le_antisymm (omega (arith, lt_of_mul-lt-mul_right (10 ^ p) {m = m} {n = 1} (omega (arith, ten_rises {i = c} {j = p} (omega arith))))) (omega arith) in
        let left : 10 ^ c - m * 10 ^ p ≡ 10 ^ c = omega (arith, ap (λ (n : ℕ). n * 10 ^ p) none) in
        rw left (omega (arith, mul-le-mul_right {m = 1} {n = 10 ^ k} (10 ^ c) (ten_above k)))

    -- a whole number of units is left
    near : (j : ℕ) × (p + j ≡ c) → 10 ^ c ≤ 10 ^ (k + p) → 10 ^ c ≤ (10 ^ c - m * 10 ^ p) * 10 ^ k
    near (j, i) a =
        let whole : 10 ^ c ≡ 10 ^ j * 10 ^ p = ap (λ (n : ℕ). 10 ^ n) (sym i) ∙ ten_add p j ∙ mul_comm (10 ^ p) (10 ^ j) in
        let unit : 10 ^ p ≤ 10 ^ c - m * 10 ^ p = omega (arith, whole, mul-le-mul_right {m = m + 1} {n = 10 ^ j} (10 ^ p) (omega (arith, lt_of_mul-lt-mul_right (10 ^ p) {m = m} {n = 10 ^ j} (omega (arith, whole))))) in
        omega (arith, ten_add k p, mul-le-mul_right (10 ^ k) unit)

-- 1 less a number of k figures that is at most 1
pub rest_sized : (k : ℕ) (f : Number) → 0 < k → f.significand < 10 ^ k → f.significand * 10 ^ place f.exponent ≤ 10 ^ depth → Sized k (rest (value f))
unfolding rest value
rest_sized k f z h l =
    let x : ℕ = f.significand * 10 ^ place f.exponent in
    record {
      sized =
          by_cases (ltb x (10 ^ depth))
          (λ t. inr (
            rest_least k f.significand (place f.exponent) depth z h (ltb-true x (10 ^ depth) t),
            omega (arith, mul-le-mul_right {m = 1} {n = 10 ^ k} (10 ^ depth) (ten_above k)),
          ))
          (λ t. inl (omega (arith, ltb-false x (10 ^ depth) t)));
    }

pub entry_ratio : (m : ℕ) (e : ℤ) → mag e < 100000 → Ratio (scaled m e) m 1 e
unfolding scaled
entry_ratio m e h =
    record { proper = ten_above depth; divisor = lit< tt; size = omega arith; link = omega arith; figures = some_or_none m }

-- wide enough for every entry; a power of ten never computes with it
pub wide : ℕ
wide = 99040

pub wide_is : wide ≡ 99040
unfolding wide
wide_is = refl

pub entry_sized : (m : ℕ) (e : ℤ) → m ≤ 10 ^ 37 → mag e ≤ 99000 → Sized wide (scaled m e)
unfolding scaled
entry_sized m e h l = record { sized = go (eq-zero-or-pos m) }
  where
    low : depth ≤ place e + wide
    low = omega (arith, place_near e l, wide_is)

    high : 37 + place e ≤ depth + wide
    high = omega (arith, place_near e l, wide_is)

    go : (m ≡ 0) ⊎ (0 < m) → (m * 10 ^ place e ≡ 0) ⊎ ((10 ^ depth ≤ m * 10 ^ place e * 10 ^ wide) × (m * 10 ^ place e ≤ 10 ^ depth * 10 ^ wide))
    go (inl z) = inl (omega (arith, ap (λ (n : ℕ). n * 10 ^ place e) z))
    go (inr p) =
        inr (
          omega (arith, ten_rises low, ten_add (place e) wide, mul-le-mul_right {m = 1} (10 ^ place e * 10 ^ wide) p),
          omega (arith, ten_rises high, ten_add 37 (place e), ten_add depth wide, mul-le-mul_right (10 ^ place e) h),
        )

-- m with k zeros behind it, and the exponent less by k, is the same number
pub entry_place : (e : ℤ) (k : ℕ) → mag e < 100000 → k ≤ 9 → place (e -ℤ pos k) + k ≡ place e
unfolding depth place
entry_place e k h l = omega (arith, place_minus e (pos k) (omega arith))

pub entry_zeros : (m k : ℕ) (e : ℤ) → mag e < 100000 → k ≤ 9 → scaled m e =ᶠ value (record { significand = m * 10 ^ k; exponent = e -ℤ pos k })
unfolding scaled value
entry_zeros m k e h l =
    record {
      across =
          ap (λ (n : ℕ). m * n * 10 ^ depth) (ap (λ (i : ℕ). 10 ^ i) (sym (entry_place e k h l)) ∙ ten_add (place (e -ℤ pos k)) k) ∙ omega arith;
    }

-- one end of an operation is its exact end rounded, where in reach, and it is in reach where the exact end is no larger than 10^99991 and
-- no smaller than 10^−99991
pub end_rounds : (o : Operation) (up : Bool) (a b : Number) → is_number a ≡ true → is_number b ≡ true → Usable o (value b) →
    in_reach (end_of o up a b).exponent ≡ true → Rounded up (exact_result o (value a) (value b)) (end_of o up a b)
unfolding end_of
end_rounds o up a b p q u h = rounded_nearest up (end_ratio o a b (working a p) (working b q) u) h

pub end_reach : (o : Operation) (up : Bool) (a b : Number) → is_number a ≡ true → is_number b ≡ true → Usable o (value b) →
    (k : ℕ) → Sized k (exact_result o (value a) (value b)) → k ≤ 99991 → in_reach (end_of o up a b).exponent ≡ true
unfolding end_of
end_reach o up a b p q u k s h = rounded_reach up (end_ratio o a b (working a p) (working b q) u) k s h

-- an end that is a working number is that number
pub end_itself : (o : Operation) (up : Bool) (a b v : Number) → is_number a ≡ true → is_number b ≡ true → Usable o (value b) → is_number v ≡ true →
    exact_result o (value a) (value b) =ᶠ value v → end_of o up a b ≡ v
unfolding end_of
end_itself o up a b v p q u n s = rounded_itself up (end_ratio o a b (working a p) (working b q) u) v n s

-- an entry needs no rounding: both directions give the same number
exact_division : (n d : ℕ) → n % d ≡ 0 → divided false n d ≡ divided true n d
unfolding divided extra
exact_division n d h = rw h

pub entry_same : (m : ℕ) (e : ℤ) → m ≤ 999999999 → rounded false m 1 e ≡ rounded true m 1 e
unfolding rounded
entry_same zero e h = refl
entry_same (suc n) e h =
    ap (λ (q : ℕ). carried q (e +ℤ sub_ℕ k 9))
    (exact_division (suc n * 1000000000) (1 * 10 ^ k) (multiple (le_dest few)))
  where
    k : ℕ
    k = excess (suc n * 1000000000) 1

    few : k ≤ 9
    few =
        let b : Beyond (suc n * 1000000000) 1 k = excess_beyond (suc n * 1000000000) 1 (lit< tt) (omega arith) in
        omega (arith, ten_reflects {i = 8 + k} {j = 18} (omega (arith, b.least)))

    multiple : (j : ℕ) × (k + j ≡ 9) → suc n * 1000000000 % (1 * 10 ^ k) ≡ 0
    multiple (j, i) =
        ap (λ (a : ℕ). a % (1 * 10 ^ k)) (regroup (suc n) (10 ^ j) (10 ^ k) (ap (λ (a : ℕ). 10 ^ a) (sym i) ∙ ten_add k j))
        ∙ mul-mod_left (suc n * 10 ^ j) (1 * 10 ^ k)
      where
        regroup : (a b c : ℕ) → 1000000000 ≡ c * b → a * 1000000000 ≡ a * b * (1 * c)
        regroup a b c s = ap (λ (t : ℕ). a * t) s ∙ omega arith

-- one end counted in units of 10^u is a division by 10^u
pub units_divided : (up : Bool) (w : Number) (u : ℤ) → Working w → mag u < 100000 →
    units_end up w u ≡ divided up (w.significand * 10 ^ place w.exponent) (10 ^ place u)
unfolding units_end
units_divided up w u p h =
    let s : ℤ = lesser w.exponent u in
    let x : Small w.exponent = size_small p.reach in
    let y : Small u = size_small h in
    let l = lesser_below x y in
    divided_same up (units_at s w) (10 ^ rise s u) (w.significand * 10 ^ place w.exponent) (10 ^ place u) (ten_above (rise s u)) (ten_above (place u))
    (cross (units_at s w) (10 ^ place s) (w.significand * 10 ^ place w.exponent) (10 ^ rise s u) (10 ^ place u)
    (units_scaled w s x l.0 l.1) (power_rise s u l.0 y l.2))
  where
    cross : (n s v r c : ℕ) → n * s ≡ v → r * s ≡ c → n * c ≡ v * r
    cross n s v r c i j = omega (arith, ap (λ (t : ℕ). t * r) i, ap (λ (t : ℕ). t * n) j)
