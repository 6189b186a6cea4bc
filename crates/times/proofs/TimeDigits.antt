-- What is printed as a time: where its last digit stands, and its digits over the two words. Assumes nothing.
use mathlib.Core.Path.{◌≡◌, sym, ◌∙◌, ap}
use mathlib.Core.Bool.{true, false, ◌&&◌, and-eq-true_iff}
use Prim.Native.Nat.{ℕ, suc, ◌+◌, ◌-◌, ◌*◌, ◌/◌, ◌%◌, ◌^◌, ◌≤◌, ◌<◌}
use native.Mathlib.Nat.{one-le-pow, pow-le-pow_right, mul-le-mul_right, mul-lt-mul_of_pos_right, div-add-mod', mod-lt}
use native.Mathlib.Omega.{arith}
use lib.Dec.{T, leb, ltb, lit<}
use lib.IntN.{ℤ, pos, negsuc, ◌+ℤ◌, nat_abs}
use lib.Pow.{pow-add}
use lib.Signed.{mag, le_z, non_neg}
use mir.Syntax.{w32}
use mir.Val.{SFits}
use borrow.Author.Tests.{leb-true, le-ltb}
use Rattle.pair.specs.Number.{place, depth}
use Rattle.pair.specs.Calls.{is, refused}
use Rattle.times.specs.Times.{words_of, time_of, least}
use Rattle.times.proofs.TwoWords.{words_from, time_is, time_refused}

pub ten_above : (k : ℕ) → 0 < 10 ^ k
ten_above k = one-le-pow k 10 (lit< tt)

-- a place from 1E-27 to 1E+9, counted from 1E-27
pub record Placed (e : ℤ) : Type 0 where
  pub small : mag e ≤ 27
  pub counted : T (non_neg (e +ℤ pos 27))
  pub most : nat_abs (e +ℤ pos 27) ≤ 36
  pub at : nat_abs (e +ℤ pos 27) + depth ≡ place e + 27

pub placed : (e : ℤ) → (le_z least e && le_z e (pos 9)) ≡ true → Placed e
unfolding least depth place
placed (pos n) h =
    let l : n ≤ 9 = leb-true n 9 h in
    record { small = omega arith; counted = tt; most = omega arith; at = omega arith }
placed (negsuc n) h =
    let l : n ≤ 26 = leb-true n 26 ((and-eq-true_iff (leb n 26) true).0 h).0 in
    let t : ltb 27 (suc n) ≡ false = le-ltb 27 (suc n) (omega arith) in
    record { small = omega arith; counted = rw t tt; most = rw t (omega arith); at = rw t (omega arith) }

pub sum_small : (e : ℤ) → Placed e → SFits w32 (e +ℤ pos 27)
sum_small e p = record { sfits = small (e +ℤ pos 27) p.counted p.most }
  where
    small : (z : ℤ) → T (non_neg z) → nat_abs z ≤ 36 → mag z < 2147483648
    small (pos n) t h = omega arith
    small (negsuc n) t h = omega arith

ten_rises : {i j : ℕ} → i ≤ j → 10 ^ i ≤ 10 ^ j
ten_rises h = pow-le-pow_right (lit< tt) h

-- digits over both words
module _ (m s : ℕ) (h : s < 18) where
  unit : 10 ^ (18 - s) * 10 ^ s ≡ 1000000000000000000
  unit = sym (pow-add 10 (18 - s) s) ∙ ap (λ (k : ℕ). 10 ^ k) (eighteen s h)
    where
      eighteen : (s : ℕ) → s < 18 → 18 - s + s ≡ 18
      eighteen s h = omega arith

  pub lower_most : m % 10 ^ (18 - s) * 10 ^ s ≤ 999999999999999999
  lower_most = omega (arith, unit, mul-lt-mul_of_pos_right (mod-lt m (ten_above (18 - s))) (ten_above s))

  pub over_words : record { high = m / 10 ^ (18 - s); low = m % 10 ^ (18 - s) * 10 ^ s } ≡ words_of (m * 10 ^ s)
  over_words =
      sym
      (words_from (m * 10 ^ s) (m / 10 ^ (18 - s)) (m % 10 ^ (18 - s) * 10 ^ s) lower_most
      (regroup (m / 10 ^ (18 - s)) (10 ^ (18 - s)) (10 ^ s) (m % 10 ^ (18 - s)) m unit (div-add-mod' m (10 ^ (18 - s)))))
    where
      regroup : (q c u r m : ℕ) → c * u ≡ 1000000000000000000 → q * c + r ≡ m → q * 1000000000000000000 + r * u ≡ m * u
      regroup q c u r m e d = omega (arith, ap (λ (x : ℕ). q * x) e, ap (λ (x : ℕ). x * u) d)

  pub words_below : m < 18446744073709551616 → m * 10 ^ s < 10 ^ 37
  words_below f =
      omega (arith, mul-le-mul_right (10 ^ s) f, ten_rises {i = s} {j = 17} (omega arith))

-- digits in the upper word
module _ (m k u : ℕ) (e : u ≡ 10 ^ k) where
  above : 0 < u
  above = rw e (ten_above k)

  amount_is : m * u * 1000000000000000000 ≡ m * 10 ^ (k + 18)
  amount_is = rw (e, pow-add 10 k 18) (omega arith)

  pub upper_most : m ≤ 9999999999999999999 / u → m * u ≤ 9999999999999999999
  upper_most h = omega (arith, mul-le-mul_right u h, div-add-mod' 9999999999999999999 u)

  pub upper_is : m ≤ 9999999999999999999 / u → is (record { high = m * u; low = 0 }) ≡ time_of (m * 10 ^ (k + 18))
  upper_is h = time_is (m * 10 ^ (k + 18)) (m * u) 0 (upper_most h) (omega arith) (omega (arith, amount_is))

  pub upper_refused : 9999999999999999999 / u < m → refused 53 ≡ time_of (m * 10 ^ (k + 18))
  upper_refused h =
      time_refused (m * 10 ^ (k + 18))
      (omega (arith, amount_is, mul-le-mul_right u h, div-add-mod' 9999999999999999999 u, mod-lt 9999999999999999999 above))
