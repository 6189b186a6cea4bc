-- How wide a sum of terms is, from its ends alone: for x at most 64 the low ends of the terms fall so that the sum of n × the n-th is at most
-- 64 times their sum. Where each term n is c × n parts wide, their sum is then 65 × c parts wide, and not c × 255. The ends are whole numbers
-- of one unit. Assumes nothing.
use Prim.Native.Nat.{ℕ, zero, suc, ◌+◌, ◌*◌, ◌^◌, ◌≤◌, ◌<◌}
use native.Mathlib.Nat.{mul-le-mul_right, mul-le-mul_left, le_of_mul-le-mul_right, le_trans, one-le-pow, pow-zero, pow-suc, pow-le-pow_left}
use native.Mathlib.Omega.{arith}
use lib.Dec.{lit<, lit≤}
use lib.Pow.{pow-add}

-- 10^8 and one part more, to the n-th power
abbrev even : ℕ → ℕ
even n = 100000000 ^ n

abbrev more : ℕ → ℕ
more n = 100000001 ^ n

even_above : (n : ℕ) → 0 < even n
even_above n = one-le-pow n 100000000 (lit< tt)

-- n parts upon each other are little more than n parts together, and not less.
parts_most : (n : ℕ) → n ≤ 99000 → more n * 100000000000 ≤ even n * (100000000000 + 1001 * n)
parts_most zero h = lit≤ tt
parts_most (suc n) h = rw (pow-suc 100000001 n, pow-suc 100000000 n) (next (more n) (even n) n (omega arith) (parts_most n (omega arith)))
  where
    next : (a b n : ℕ) → n ≤ 99000 → a * 100000000000 ≤ b * (100000000000 + 1001 * n) → a * 100000001 * 100000000000 ≤ b * 100000000 * (100000000000 + 1001 * suc n)
    next a b n h k = omega (arith, k, mul-le-mul_right b h)

parts_least : (n : ℕ) → even n * (100000000 + n) ≤ more n * 100000000
parts_least zero = lit≤ tt
parts_least (suc n) = rw (pow-suc 100000001 n, pow-suc 100000000 n) (next (more n) (even n) n (parts_least n))
  where
    next : (a b n : ℕ) → b * (100000000 + n) ≤ a * 100000000 → b * 100000000 * (100000000 + suc n) ≤ a * 100000001 * 100000000
    next a b n k = omega (arith, mul-le-mul_right 100000001 k)

-- 99,000 parts do not double.
pub not_double : (n : ℕ) → n ≤ 99000 → 100000001 ^ n ≤ 2 * 100000000 ^ n
not_double n h = twice (more n) (even n) n h (parts_most n h)
  where
    twice : (a b n : ℕ) → n ≤ 99000 → a * 100000000000 ≤ b * (100000000000 + 1001 * n) → a ≤ 2 * b
    twice a b n h k = le_of_mul-le-mul_right {k = 100000000000} (omega (arith, k, mul-le-mul_right (1001 * b) h)) (lit< tt)

-- the sum of what f has up to n
sum_to : (ℕ → ℕ) → ℕ → ℕ
sum_to f zero = f 0
sum_to f (suc n) = sum_to f n + f (suc n)

-- Terms with ends l and h and their sums with ends L and H, up to the last: each term n is c × n parts wide, and each sum is rounded once.
pub record Summed (c last : ℕ) (l h L H : ℕ → ℕ) : Type 0 where
  pub narrow : (n : ℕ) → n ≤ last → h n * 100000000 ^ (c * n) ≤ l n * 100000001 ^ (c * n)
  pub falls : (n : ℕ) → n < last → suc n * l (suc n) ≤ 64 * l n
  pub low_first : l 0 ≤ L 0
  pub high_first : H 0 ≤ h 0
  pub low_next : (n : ℕ) → n < last → (L n + l (suc n)) * 100000000 ≤ L (suc n) * 100000001
  pub high_next : (n : ℕ) → n < last → H (suc n) * 100000000 ≤ (H n + h (suc n)) * 100000001

module _ (c last : ℕ) (l h L H : ℕ → ℕ) (s : Summed c last l h L H) (few : c * last ≤ 99000) where
  few_at : (n : ℕ) → n ≤ last → c * n ≤ 99000
  few_at n i = le_trans (mul-le-mul_left c i) few

  -- The high end of a term, by parts together.
  term_wide : (n : ℕ) → n ≤ last → h n * 100000000000 ≤ l n * 100000000000 + 1001 * c * (n * l n)
  term_wide n i = wide (h n) (l n) (even (c * n)) (more (c * n)) n (even_above (c * n)) (s.narrow n i) (parts_most (c * n) (few_at n i))
    where
      wide : (a b e m n : ℕ) → 0 < e → a * e ≤ b * m → m * 100000000000 ≤ e * (100000000000 + 1001 * (c * n)) → a * 100000000000 ≤ b * 100000000000 + 1001 * c * (n * b)
      wide a b e m n z i k = le_of_mul-le-mul_right {k = e} (omega (arith, mul-le-mul_right 100000000000 i, mul-le-mul_right b k)) z

  weighed : ℕ → ℕ
  weighed n = n * l n

  -- The sum of n × the n-th low end is at most 64 times the sum of the low ends.
  weighed_next : (n : ℕ) → n < last → sum_to weighed (suc n) ≤ 64 * sum_to l n
  unfolding sum_to weighed
  weighed_next zero i = omega (arith, s.falls zero i)
  weighed_next (suc n) i = omega (arith, weighed_next n (omega arith), s.falls (suc n) i)

  weighed_most : (n : ℕ) → n ≤ last → sum_to weighed n ≤ 64 * sum_to l n
  unfolding sum_to weighed
  weighed_most zero i = omega arith
  weighed_most (suc n) i = omega (arith, weighed_next n i)

  -- The plain sums of the ends, and the sums as rounded.
  sums_wide : (n : ℕ) → n ≤ last → sum_to h n * 100000000000 ≤ sum_to l n * 100000000000 + 1001 * c * sum_to weighed n
  unfolding sum_to weighed
  sums_wide zero i = term_wide zero i
  sums_wide (suc n) i = omega (arith, sums_wide n (omega arith), term_wide (suc n) i)

  sums_narrow : (n : ℕ) → n ≤ last → sum_to h n * even (65 * c) ≤ sum_to l n * more (65 * c)
  sums_narrow n i =
      narrow (sum_to h n) (sum_to l n) (sum_to weighed n) (even (65 * c)) (more (65 * c)) (sums_wide n i) (weighed_most n i) (parts_least (65 * c))
    where
      narrow : (a b w e m : ℕ) → a * 100000000000 ≤ b * 100000000000 + 1001 * c * w → w ≤ 64 * b → e * (100000000 + 65 * c) ≤ m * 100000000 → a * e ≤ b * m
      narrow a b w e m i k j =
          let together : a * 100000000 ≤ b * (100000000 + 65 * c) =
          le_of_mul-le-mul_right {k = 1000} (omega (arith, i, mul-le-mul_right (1001 * c) k)) (lit< tt) in
          le_of_mul-le-mul_right {k = 100000000} (omega (arith, mul-le-mul_right e together, mul-le-mul_right b j)) (lit< tt)

  low_sums : (n : ℕ) → n ≤ last → sum_to l n * even n ≤ L n * more n
  unfolding sum_to
  low_sums zero i = rw (pow-zero 100000001, pow-zero 100000000) (omega (arith, s.low_first))
  low_sums (suc n) i =
      rw (pow-suc 100000001 n, pow-suc 100000000 n)
      (next (sum_to l n) (l (suc n)) (L n) (L (suc n)) (even n) (more n) (low_sums n (omega arith)) (pow-le-pow_left {n = 100000000} {m = 100000001} (lit≤ tt) n) (s.low_next n i))
    where
      next : (a b c d e m : ℕ) → a * e ≤ c * m → e ≤ m → (c + b) * 100000000 ≤ d * 100000001 → (a + b) * (e * 100000000) ≤ d * (m * 100000001)
      next a b c d e m i k j = omega (arith, mul-le-mul_right 100000000 i, mul-le-mul_right (b * 100000000) k, mul-le-mul_right m j)

  high_sums : (n : ℕ) → n ≤ last → H n * even n ≤ sum_to h n * more n
  unfolding sum_to
  high_sums zero i = rw (pow-zero 100000001, pow-zero 100000000) (omega (arith, s.high_first))
  high_sums (suc n) i =
      rw (pow-suc 100000001 n, pow-suc 100000000 n)
      (next (sum_to h n) (h (suc n)) (H n) (H (suc n)) (even n) (more n) (high_sums n (omega arith)) (pow-le-pow_left {n = 100000000} {m = 100000001} (lit≤ tt) n) (s.high_next n i))
    where
      next : (a b c d e m : ℕ) → c * e ≤ a * m → e ≤ m → d * 100000000 ≤ (c + b) * 100000001 → d * (e * 100000000) ≤ (a + b) * (m * 100000001)
      next a b c d e m i k j = omega (arith, mul-le-mul_right 100000001 i, mul-le-mul_right (b * 100000001) k, mul-le-mul_right e j)

  -- The sum is 65 × c parts wide, and two more for each time it was rounded.
  pub sum_narrow : H last * 100000000 ^ (last + (65 * c + last)) ≤ L last * 100000001 ^ (last + (65 * c + last))
  sum_narrow =
      rw (pow-add 100000000 last (65 * c + last), pow-add 100000001 last (65 * c + last), pow-add 100000000 (65 * c) last, pow-add 100000001 (65 * c) last)
      (chain (H last) (sum_to h last) (sum_to l last) (L last) (even last) (more last) (even (65 * c)) (more (65 * c))
      (high_sums last (omega arith)) (sums_narrow last (omega arith)) (low_sums last (omega arith)))
    where
      chain : (a b c d e m f n : ℕ) → a * e ≤ b * m → b * f ≤ c * n → c * e ≤ d * m → a * (e * (f * e)) ≤ d * (m * (n * m))
      chain a b c d e m f n i j k = omega (arith, mul-le-mul_right (f * e) i, mul-le-mul_right (m * e) j, mul-le-mul_right (m * n) k)
