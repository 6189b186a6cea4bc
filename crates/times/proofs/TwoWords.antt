-- A time's two words: what the test of them says, and the words of an amount. Assumes nothing.
use mathlib.Core.Path.{◌≡◌, refl, sym, ◌∙◌, ap}
use mathlib.Core.Bool.{Bool, true, false, and-eq-true_iff}
use mathlib.Mathlib.Data.Bool.Basic.{and_intro}
use Prim.Native.Nat.{ℕ, ◌+◌, ◌-◌, ◌*◌, ◌/◌, ◌%◌, ◌^◌, ◌≤◌, ◌<◌}
use native.Mathlib.Nat.{le_antisymm, div-add-mod', mod-lt}
use native.Mathlib.Omega.{arith}
use lib.Dec.{leb, ltb, lit<}
use borrow.Author.Tests.{ltb-true, leb-true, leb-false, lt-ltb, le-ltb, le-leb, lt-leb}
use Rattle.pair.specs.Calls.{is, refused}
use Rattle.pair.proofs.Promises.{provided_true, refused_as}
use Rattle.times.specs.declared.Years.{Years}
use Rattle.times.specs.Times.{amount, is_years, words_of, time_of}

-- the bounds of the words
pub record Bounded (y : Years) : Type 0 where
  pub high : y.high ≤ 9999999999999999999
  pub low : y.low ≤ 999999999999999999

pub bounded : (y : Years) → is_years y ≡ true → Bounded y
unfolding is_years
bounded y h =
    let b = (and-eq-true_iff (ltb y.high (10 ^ 19)) (ltb y.low (10 ^ 18))).0 h in
    record { high = omega (arith, ltb-true y.high 10000000000000000000 b.0); low = omega (arith, ltb-true y.low 1000000000000000000 b.1) }

pub from_bounds : (y : Years) → Bounded y → is_years y ≡ true
unfolding is_years
from_bounds y b = and_intro (lt-ltb y.high (10 ^ 19) (omega (arith, b.high))) (lt-ltb y.low (10 ^ 18) (omega (arith, b.low)))

-- an amount has one way to be written in two words
only : (h l h' l' : ℕ) → l ≤ 999999999999999999 → l' ≤ 999999999999999999 → h * 1000000000000000000 + l ≡ h' * 1000000000000000000 + l' → h ≤ h'
only h l h' l' p q e = omega arith

pub words_from : (n h l : ℕ) → l ≤ 999999999999999999 → h * 1000000000000000000 + l ≡ n → words_of n ≡ record { high = h; low = l }
unfolding words_of
words_from n h l p e =
    let q : ℕ = n / 1000000000000000000 in
    let r : ℕ = n % 1000000000000000000 in
    let d : q * 1000000000000000000 + r ≡ n = div-add-mod' n 1000000000000000000 in
    let m : r ≤ 999999999999999999 = omega (arith, mod-lt n {m = 1000000000000000000} (lit< tt)) in
    let i : q ≡ h = le_antisymm (only q r h l m p (d ∙ sym e)) (only h l q r p m (e ∙ sym d)) in
    let j : r ≡ l = omega (arith, d, e, i) in
    λ t. record { high = i t; low = j t }

pub amount_words : (n : ℕ) → amount (words_of n) ≡ n
unfolding amount words_of
amount_words n = div-add-mod' n 1000000000000000000

-- an amount below 1E+37 is a time
pub words_are : (n : ℕ) → n < 10 ^ 37 → is_years (words_of n) ≡ true
unfolding words_of
words_are n h =
    let q : ℕ = n / 1000000000000000000 in
    let r : ℕ = n % 1000000000000000000 in
    from_bounds (words_of n)
    (record { high = omega (arith, div-add-mod' n 1000000000000000000); low = omega (arith, mod-lt n {m = 1000000000000000000} (lit< tt)) })

-- and a time is below that
pub amount_below : (y : Years) → is_years y ≡ true → amount y < 10 ^ 37
unfolding amount
amount_below y h = let b : Bounded y = bounded y h in omega (arith, b.high, b.low)

-- what an amount gives as a time, by its words, and what it does not give
pub time_is : (n h l : ℕ) → h ≤ 9999999999999999999 → l ≤ 999999999999999999 → h * 1000000000000000000 + l ≡ n → is (record { high = h; low = l }) ≡ time_of n
unfolding time_of
time_is n h l p q e = ap is (sym (words_from n h l q e)) ∙ sym (provided_true (is (words_of n)) (lt-ltb n (10 ^ 37) (omega (arith, e))))

pub time_refused : (n : ℕ) → 10 ^ 37 ≤ n → refused 53 ≡ time_of n
unfolding time_of
time_refused n h = refused_as (ltb n (10 ^ 37)) (is (words_of n)) (sym (le-ltb n (10 ^ 37) h))

-- the upper words decide the order, and the lower ones where those are equal
pub highs_order : (a b : Years) → is_years a ≡ true → a.high < b.high → amount a < amount b
unfolding amount
highs_order a b h l = omega (arith, (bounded a h).low, l)

pub lows_order : (a b : Years) → a.high ≡ b.high → leb a.low b.low ≡ leb (amount a) (amount b)
unfolding amount
lows_order a b e =
    by_test (leb a.low b.low) refl
  where
    by_test : (t : Bool) → leb a.low b.low ≡ t → leb a.low b.low ≡ leb (a.high * 10 ^ 18 + a.low) (b.high * 10 ^ 18 + b.low)
    by_test true t = t ∙ sym (le-leb (a.high * 10 ^ 18 + a.low) (b.high * 10 ^ 18 + b.low) (omega (arith, e, leb-true a.low b.low t)))
    by_test false t = t ∙ sym (lt-leb (a.high * 10 ^ 18 + a.low) (b.high * 10 ^ 18 + b.low) (omega (arith, e, leb-false a.low b.low t)))

-- a − b, for b at most a, with and without a one taken from the upper word
module _ (a b : Years) (p : is_years a ≡ true) (q : is_years b ≡ true) (h : amount b ≤ amount a) where
  pub taken_high : a.low < b.low → b.high + 1 ≤ a.high
  unfolding amount
  taken_high l = omega (arith, (bounded a p).low, (bounded b q).low, h)

  pub left_high : b.high ≤ a.high
  unfolding amount
  left_high = omega (arith, (bounded a p).low, (bounded b q).low, h)

  pub less_taken : a.low < b.low → record { high = a.high - b.high - 1; low = a.low + 1000000000000000000 - b.low } ≡ words_of (amount a - amount b)
  unfolding amount
  less_taken l =
      sym
      (words_from (amount a - amount b) (a.high - b.high - 1) (a.low + 1000000000000000000 - b.low)
      (omega (arith, l)) (omega (arith, l, taken_high l, (bounded a p).low, (bounded b q).low, h)))

  pub less_left : b.low ≤ a.low → record { high = a.high - b.high; low = a.low - b.low } ≡ words_of (amount a - amount b)
  unfolding amount
  less_left l =
      sym
      (words_from (amount a - amount b) (a.high - b.high) (a.low - b.low)
      (omega (arith, (bounded a p).low)) (omega (arith, l, left_high, h)))

-- a + b, with the lower words' carry
module _ (a b : Years) (p : is_years a ≡ true) (q : is_years b ≡ true) where
  carry : ℕ
  carry = (a.low + b.low) / 1000000000000000000

  left : ℕ
  left = (a.low + b.low) % 1000000000000000000

  carry_is : carry * 1000000000000000000 + left ≡ a.low + b.low
  unfolding carry left
  carry_is = div-add-mod' (a.low + b.low) 1000000000000000000

  pub carry_most : (a.low + b.low) / 1000000000000000000 ≤ 1
  unfolding carry left
  carry_most = omega (arith, carry_is, (bounded a p).low, (bounded b q).low)

  pub highs_refused : 9999999999999999999 - a.high < b.high → refused 53 ≡ time_of (amount a + amount b)
  unfolding amount
  highs_refused h = time_refused (amount a + amount b) (omega (arith, h, (bounded a p).high))

  pub sum_refused : 9999999999999999999 < a.high + b.high + (a.low + b.low) / 1000000000000000000 → refused 53 ≡ time_of (amount a + amount b)
  unfolding amount carry left
  sum_refused h = time_refused (amount a + amount b) (omega (arith, h, carry_is))

  pub sum_is : a.high + b.high + (a.low + b.low) / 1000000000000000000 ≤ 9999999999999999999 →
      is (record { high = a.high + b.high + (a.low + b.low) / 1000000000000000000; low = (a.low + b.low) % 1000000000000000000 }) ≡ time_of (amount a + amount b)
  unfolding amount carry left
  sum_is h =
      time_is (amount a + amount b) (a.high + b.high + carry) left h
      (omega (arith, mod-lt (a.low + b.low) {m = 1000000000000000000} (lit< tt))) (omega (arith, carry_is))
