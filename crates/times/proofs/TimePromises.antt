-- What the crates above may count on: what each call answers, when it is answered, and what its answer is as an exact fraction of years.
-- Assumes nothing.
use mathlib.Core.Path.{◌≡◌, refl, sym, ◌∙◌, ap, ap₂, subst}
use mathlib.Core.Bool.{Bool, true, false, ◌&&◌}
use mathlib.Core.Logic.{◌⊎◌, inl, inr}
use mathlib.Mathlib.Data.Bool.Basic.{and_intro}
use Prim.Native.Nat.{ℕ, ◌+◌, ◌-◌, ◌*◌, ◌^◌, ◌≤◌, ◌<◌}
use native.Mathlib.Nat.{eq-zero-or-pos, mul_comm, mul-sub, mul_assoc, mul-le-mul_right, le_trans, le_of_mul-le-mul_right, lt_of_mul-lt-mul_right, mul-lt-mul_of_pos_right, mul-pos}
use native.Mathlib.Omega.{arith}
use lib.Dec.{leb, ltb, lit<, lit≤}
use lib.IntN.{ℤ, pos}
use lib.Pow.{pow-add}
use lib.Signed.{le_z}
use borrow.Author.Tests.{ltb-true, lt-ltb, leb-true, leb-false, le-leb}
use Rattle.pair.specs.declared.Pair.{Pair}
use Rattle.pair.specs.Fraction.{Fraction, Proper, ◌≤ᶠ◌, plus, minus}
use Rattle.pair.specs.Number.{place, depth}
use Rattle.pair.specs.Calls.{is}
use Rattle.pair.specs.Promises.{Around, Sized, scaled}
use Rattle.pair.proofs.Promises.{provided_is, provided_true, ◌<ᶠ◌, ◌=ᶠ◌, equal_through, equal_turned, minus_equal, around_equal, scaled_proper, long_entry_around, long_entry_answered}
use Rattle.times.specs.declared.Years.{Years}
use Rattle.times.specs.Times.{amount, years_of, in_years, is_years, words_of, time_of, none, least, places, printed_amount, printed, together, at_most, as_pair, beyond}
use Rattle.times.proofs.TwoWords.{Bounded, bounded, words_from}
pub use Rattle.times.proofs.TwoWords.{amount_words, words_are, amount_below}
use Rattle.times.proofs.TimeDigits.{Placed, placed, ten_above}

-- A time is the words of its amount.
pub words_again : (y : Years) → is_years y ≡ true → words_of (amount y) ≡ y
unfolding amount
words_again y h = words_from (amount y) y.high y.low (bounded y h).low (omega arith)

-- 0 years is a time.
pub none_is : (is_years none ≡ true) × (amount none ≡ 0)
unfolding is_years amount none
none_is = (and_intro (lt-ltb 0 (10 ^ 19) (lit< tt)) (lt-ltb 0 (10 ^ 18) (lit< tt)), omega arith)

time_told : (n : ℕ) (y : Years) → time_of n ≡ is y → (is_years y ≡ true) × (amount y ≡ n)
unfolding time_of
time_told n y h =
    let t = provided_is (ltb n (10 ^ 37)) (is (words_of n)) y h in
    let e : is (words_of n) ≡ is y = t.1 in
    let s : words_of n ≡ y = cc in (
      subst (λ (x : Years). is_years x ≡ true) s (words_are n (ltb-true n (10 ^ 37) t.0)),
      ap amount (sym s) ∙ amount_words n,
    )

time_from : (n : ℕ) → n < 10 ^ 37 → time_of n ≡ is (words_of n)
unfolding time_of
time_from n h = provided_true (is (words_of n)) (lt-ltb n (10 ^ 37) h)

-- m × 10^e years as printed, with the last digit from 1E-27 to 1E+9 and below 1E+10 years.
pub printed_told : (m : ℕ) (e : ℤ) → le_z least e ≡ true → le_z e (pos 9) ≡ true → printed_amount m e < 10 ^ 37 → printed m e ≡ is (words_of (printed_amount m e))
unfolding printed
printed_told m e l h n = provided_true (time_of (printed_amount m e)) (and_intro l h) ∙ time_from (printed_amount m e) n

module _ (m : ℕ) (e : ℤ) (y : Years) (h : printed m e ≡ is y) where
  printed_parts : ((le_z least e && le_z e (pos 9)) ≡ true) × (time_of (printed_amount m e) ≡ is y)
  unfolding printed
  printed_parts = provided_is (le_z least e && le_z e (pos 9)) (time_of (printed_amount m e)) y h

  pub printed_is_years : is_years y ≡ true
  printed_is_years = (time_told (printed_amount m e) y printed_parts.1).0

  pub printed_amount_lem : amount y ≡ printed_amount m e
  printed_amount_lem = (time_told (printed_amount m e) y printed_parts.1).1

  -- It is what is printed.
  pub printed_same : scaled m e =ᶠ in_years y
  unfolding scaled in_years years_of printed_amount places least
  printed_same =
      let p : Placed e = placed e printed_parts.0 in
      let k : ℕ = places e in
      record { across = shift m (amount y) (10 ^ place e) (10 ^ 27) (10 ^ k) (10 ^ depth) (sym (pow-add 10 (place e) 27) ∙ ap (λ (i : ℕ). 10 ^ i) (sym p.at) ∙ pow-add 10 k depth) printed_amount_lem }
    where
      shift : (m a p d r w : ℕ) → p * d ≡ r * w → a ≡ m * r → m * p * d ≡ a * w
      shift m a p d r w e i = omega (arith, ap (λ (x : ℕ). m * x) e, ap (λ (x : ℕ). x * w) i)

-- The sum of two times, where it is below 1E+10 years.
pub together_told : (a b : Years) → is_years a ≡ true → is_years b ≡ true → amount a + amount b < 10 ^ 37 → together a b ≡ is (words_of (amount a + amount b))
unfolding together
together_told a b p q n = provided_true (time_of (amount a + amount b)) (and_intro p q) ∙ time_from (amount a + amount b) n

module _ (a b c : Years) (h : together a b ≡ is c) where
  together_parts : ((is_years a && is_years b) ≡ true) × (time_of (amount a + amount b) ≡ is c)
  unfolding together
  together_parts = provided_is (is_years a && is_years b) (time_of (amount a + amount b)) c h

  pub together_is_years : is_years c ≡ true
  together_is_years = (time_told (amount a + amount b) c together_parts.1).0

  pub together_amount : amount c ≡ amount a + amount b
  together_amount = (time_told (amount a + amount b) c together_parts.1).1

  pub together_same : plus (in_years a) (in_years b) =ᶠ in_years c
  unfolding plus in_years years_of
  together_same = record { across = joined (amount a) (amount b) (amount c) (10 ^ 27) together_amount }
    where
      joined : (a b c d : ℕ) → c ≡ a + b → (a * d + b * d) * d ≡ c * (d * d)
      joined a b c d e = omega (arith, ap (λ (x : ℕ). x * (d * d)) e)

-- Two times can always be compared.
pub at_most_told : (a b : Years) → is_years a ≡ true → is_years b ≡ true → at_most a b ≡ is (leb (amount a) (amount b))
unfolding at_most
at_most_told a b p q = provided_true (is (leb (amount a) (amount b))) (and_intro p q)

-- A time, and whatever comes to the same fraction of years, is at most another exactly where the comparison says true.
pub at_most_right : (a b : Years) (t : Bool) (x y : Fraction) → at_most a b ≡ is t → Proper x → Proper y → x =ᶠ in_years a → y =ᶠ in_years b → (t ≡ true → x ≤ᶠ y) × (t ≡ false → y <ᶠ x)
unfolding at_most in_years years_of
at_most_right a b t x y h m n i j =
    let s = provided_is (is_years a && is_years b) (is (leb (amount a) (amount b))) t h in
    let e : is (leb (amount a) (amount b)) ≡ is t = s.1 in
    let u : leb (amount a) (amount b) ≡ t = cc in (
      λ g. record { across = below x.num x.den y.num y.den (amount a) (amount b) (10 ^ 27) (lit< tt) i.across j.across (leb-true (amount a) (amount b) (u ∙ g)) },
      λ g. record { across = beneath x.num x.den y.num y.den (amount a) (amount b) (10 ^ 27) m.above_zero n.above_zero i.across j.across (leb-false (amount a) (amount b) (u ∙ g)) },
    )
  where
    below : (n d m c a b w : ℕ) → 0 < w → n * w ≡ a * d → m * w ≡ b * c → a ≤ b → n * c ≤ m * d
    below n d m c a b w p i j l = le_of_mul-le-mul_right (omega (arith, ap (λ (x : ℕ). x * c) i, ap (λ (x : ℕ). x * d) j, mul-le-mul_right (c * d) l)) p

    beneath : (n d m c a b w : ℕ) → 0 < d → 0 < c → n * w ≡ a * d → m * w ≡ b * c → b < a → m * d < n * c
    beneath n d m c a b w p q i j l =
        lt_of_mul-lt-mul_right w (omega (arith, ap (λ (x : ℕ). x * c) i, ap (λ (x : ℕ). x * d) j, mul-lt-mul_of_pos_right l (mul-pos p q)))

at_least : place least + 27 ≡ depth
unfolding place depth least
at_least = refl

-- so many 1E-27 years, entered
entered : (n : ℕ) → scaled n least =ᶠ years_of n
unfolding scaled years_of
entered n = record { across = mul_assoc n (10 ^ place least) (10 ^ 27) ∙ ap (λ (w : ℕ). n * w) (sym (pow-add 10 (place least) 27) ∙ ap (λ (i : ℕ). 10 ^ i) at_least) }

pub years_proper : (n : ℕ) → Proper (years_of n)
unfolding years_of
years_proper n = record { above_zero = ten_above 27 }

-- A time as a pair is the pair around it.
pub pair_around : (a : Years) (p : Pair) → as_pair a ≡ is p → Around (in_years a) p
unfolding as_pair in_years amount
pair_around a p h = around_equal (scaled_proper (amount a) least) (years_proper (amount a)) (entered (amount a)) (long_entry_around a.high a.low least p h)

pub pair_answered : (a : Years) → is_years a ≡ true → (p : Pair) × (as_pair a ≡ is p)
unfolding as_pair least
pair_answered a h = let b : Bounded a = bounded a h in long_entry_answered a.high a.low least (omega (arith, b.high)) (omega (arith, b.low)) (lit≤ tt)

-- The difference of two times as a pair is the pair around the exact difference.
pub beyond_around : (a b : Years) (p : Pair) → beyond a b ≡ is p → Around (years_of (amount a - amount b)) p
unfolding beyond in_years
beyond_around a b p h =
    let n : ℕ = amount a - amount b in
    let t = provided_is (is_years a && (is_years b && leb (amount b) (amount a))) (as_pair (words_of n)) p h in
    subst (λ (m : ℕ). Around (years_of m) p) (amount_words n) (pair_around (words_of n) p t.1)

pub minus_years : (a b : Years) → minus (in_years a) (in_years b) =ᶠ years_of (amount a - amount b)
unfolding minus in_years years_of
minus_years a b = record { across = apart (amount a) (amount b) (10 ^ 27) }
  where
    apart : (a b d : ℕ) → (a * d - b * d) * d ≡ (a - b) * (d * d)
    apart a b d = ap (λ (x : ℕ). x * d) (ap₂ ◌-◌ (mul_comm a d) (mul_comm b d) ∙ sym (mul-sub d a b)) ∙ omega arith

minus_proper : {x y : Fraction} → Proper x → Proper y → Proper (minus x y)
unfolding minus
minus_proper p q = record { above_zero = mul-pos p.above_zero q.above_zero }

-- The same of any fractions that come to the two times.
pub beyond_around_minus : (a b : Years) (p : Pair) (x y : Fraction) → beyond a b ≡ is p → Proper x → Proper y → x =ᶠ in_years a → y =ᶠ in_years b → Around (minus x y) p
unfolding in_years
beyond_around_minus a b p x y h m n i j =
    around_equal (years_proper (amount a - amount b)) (minus_proper m n)
    (equal_turned (equal_through (minus_proper (years_proper (amount a)) (years_proper (amount b))) (minus_equal i j) (minus_years a b)))
    (beyond_around a b p h)

pub beyond_told : (a b : Years) → is_years a ≡ true → is_years b ≡ true → amount b ≤ amount a → beyond a b ≡ as_pair (words_of (amount a - amount b))
unfolding beyond
beyond_told a b p q h = provided_true (as_pair (words_of (amount a - amount b))) (and_intro p (and_intro q (le-leb (amount b) (amount a) h)))

pub beyond_answered : (a b : Years) → is_years a ≡ true → is_years b ≡ true → amount b ≤ amount a → (p : Pair) × (beyond a b ≡ is p)
beyond_answered a b p q h =
    let n : ℕ = amount a - amount b in
    let r = pair_answered (words_of n) (words_are n (omega (arith, amount_below a p))) in
    (r.0, beyond_told a b p q h ∙ r.1)

-- A time, or a difference of two, is 0 or from 1E-27 to 1E+27 years.
pub years_sized : (n : ℕ) → n < 10 ^ 37 → Sized 27 (years_of n)
unfolding years_of
years_sized n h = record { sized = go (eq-zero-or-pos n) }
  where
    go : (n ≡ 0) ⊎ (0 < n) → (n ≡ 0) ⊎ ((10 ^ 27 ≤ n * 10 ^ 27) × (n ≤ 10 ^ 27 * 10 ^ 27))
    go (inl z) = inl z
    go (inr p) = inr (omega arith, le_trans {n = n} {m = 10 ^ 37} (omega arith) (lit≤ tt))
