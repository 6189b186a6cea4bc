-- The exact series: the step from one term to the next, the n-th term in one piece, and the sums. For x at most 64 a sum with its last term
-- once more falls from the 127th term on, so that every later sum lies between a sum and that sum with its last term once more. Assumes
-- nothing.
use mathlib.Core.Path.{◌≡◌, refl, ◌∙◌, ap}
use Prim.Native.Nat.{ℕ, zero, suc, ◌+◌, ◌*◌, ◌^◌, ◌≤◌, ◌<◌}
use native.Mathlib.Nat.{mul-le-mul_right, le_of_mul-le-mul_right, mul-pos, one-le-pow, pow-zero, pow-suc, pow-le-pow_left, add-suc, add-zero}
use native.Mathlib.Omega.{arith}
use lib.Dec.{lit<, lit≤}
use lib.IntN.{pos, negsuc}
use lib.Pow.{pow-add}
use Rattle.pair.specs.Fraction.{Fraction, Proper, ◌≤ᶠ◌, plus, times, over}
use Rattle.pair.specs.Number.{place, depth}
use Rattle.pair.specs.Promises.{scaled}
use Rattle.pair.proofs.Promises.{below_itself, through}
use Rattle.equations.specs.Formula.{fractions}
use Rattle.equations.specs.Series.{Series, phi, psi, first, step, terms}

unfoldable pub factorial : ℕ → ℕ
factorial zero = 1
factorial (suc n) = suc n * factorial n

pub factorial_above : (n : ℕ) → 0 < factorial n
unfolding factorial
factorial_above zero = lit< tt
factorial_above (suc n) = mul-pos {m = suc n} (omega arith) (factorial_above n)

abbrev pub term : Series → Fraction → ℕ → Fraction
term s x n = (terms fractions s x n).term

abbrev pub total : Series → Fraction → ℕ → Fraction
total s x n = (terms fractions s x n).total

ten_above : (k : ℕ) → 0 < 10 ^ k
ten_above k = one-le-pow k 10 (lit< tt)

pub place_zero : place (pos 0) ≡ depth
unfolding place
place_zero = add-zero depth

tenth : 10 ^ depth ≡ 10 * 10 ^ place (negsuc 0)
tenth = ap (λ (n : ℕ). 10 ^ n) next ∙ pow-add 10 1 (place (negsuc 0))
  where
    next : depth ≡ 1 + place (negsuc 0)
    next = unfold depth place in refl

-- A step multiplies by x and by up / down.
unfoldable pub up : Series → ℕ → ℕ
up phi n = 1
up psi n = n + 2

unfoldable pub down : Series → ℕ → ℕ
down phi n = n + 2
down psi n = (n + 1) * (n + 3)

pub up_above : (s : Series) (n : ℕ) → 0 < up s n
unfolding up
up_above phi n = lit< tt
up_above psi n = omega arith

pub down_above : (s : Series) (n : ℕ) → 0 < down s n
unfolding down
down_above phi n = omega arith
down_above psi n = omega arith

-- Each is at least n + 1 times smaller than x makes it.
pub falls : (s : Series) (n : ℕ) → suc n * up s n ≤ down s n
unfolding up down
falls phi n = omega arith
falls psi n = omega arith

pub step_is : (s : Series) (x : Fraction) (n : ℕ) (t : Fraction) →
    (step fractions s x n t).num * (t.den * x.den * down s n) ≡ t.num * x.num * up s n * (step fractions s x n t).den
unfolding step fractions scaled times over up down
step_is phi x n t = rw place_zero (omega arith)
step_is psi x n t = rw place_zero (omega arith)

pub step_proper : (s : Series) {x t : Fraction} (n : ℕ) → Proper x → Proper t → Proper (step fractions s x n t)
unfolding step fractions scaled times over
step_proper phi n p q =
    record { above_zero = mul-pos (mul-pos q.above_zero p.above_zero) (mul-pos {m = n + 2} (omega arith) (ten_above (place (pos 0)))) }
step_proper psi n p q =
    record {
      above_zero =
          mul-pos
          (mul-pos (mul-pos (mul-pos q.above_zero p.above_zero) (ten_above depth)) (mul-pos {m = n + 1} (omega arith) (ten_above (place (pos 0)))))
          (mul-pos {m = n + 3} (omega arith) (ten_above (place (pos 0))));
    }

-- For x at most 64 the n-th step makes at most 64 / n of a term.
pub step_most : (s : Series) (x : Fraction) (n : ℕ) (t : Fraction) → Proper x → x.num ≤ 64 * x.den →
    suc n * (step fractions s x n t).num * t.den ≤ 64 * t.num * (step fractions s x n t).den
step_most s x n t p h =
    most t.num t.den (step fractions s x n t).num (step fractions s x n t).den x.num x.den (suc n) (up s n) (down s n)
    p.above_zero (down_above s n) h (falls s n) (step_is s x n t)
  where
    most : (a b a' b' xn xd m u d : ℕ) → 0 < xd → 0 < d → xn ≤ 64 * xd → m * u ≤ d → a' * (b * xd * d) ≡ a * xn * u * b' → m * a' * b ≤ 64 * a * b'
    most a b a' b' xn xd m u d z w h k e =
        let i : a' * b * d ≤ 64 * a * u * b' = le_of_mul-le-mul_right {k = xd} (omega (arith, e, mul-le-mul_right (a * u * b') h)) z in
        le_of_mul-le-mul_right {k = d} (omega (arith, mul-le-mul_right m i, mul-le-mul_right (64 * a * b') k)) w

first_proper : (s : Series) → Proper (first fractions s)
unfolding first fractions scaled
first_proper phi = record { above_zero = ten_above depth }
first_proper psi = record { above_zero = ten_above depth }

-- The first term is from 1/2 to 1.
first_least : (s : Series) → (first fractions s).den ≤ 2 * (first fractions s).num
unfolding first fractions scaled
first_least phi = rw place_zero (omega arith)
first_least psi = rw tenth (omega arith)

first_most : (s : Series) → (first fractions s).num ≤ (first fractions s).den
unfolding first fractions scaled
first_most phi = rw place_zero (omega arith)
first_most psi = rw tenth (omega arith)

pub term_proper : (s : Series) {x : Fraction} → Proper x → (n : ℕ) → Proper (term s x n)
unfolding terms
term_proper s p zero = first_proper s
term_proper s p (suc n) = step_proper s n p (term_proper s p n)

pub total_proper : (s : Series) {x : Fraction} → Proper x → (n : ℕ) → Proper (total s x n)
unfolding terms fractions plus
total_proper s p zero = first_proper s
total_proper s p (suc n) = record { above_zero = mul-pos (total_proper s p n).above_zero (term_proper s p (suc n)).above_zero }

-- The n-th term is x^n / (n + 1)! for φ, and (n + 1) × x^n / (n + 2)! for ψ.
unfoldable pub lead : Series → ℕ → ℕ
lead phi n = 1
lead psi n = suc n

unfoldable pub order : Series → ℕ → ℕ
order phi n = suc n
order psi n = suc (suc n)

psi_next : (a b f N D xn xd p m u v u' v' : ℕ) → u' ≡ u → v' ≡ v → a * (D * f) ≡ m * N * b →
    a * xn * (u * p) * p * p * (D * xd * (v' * f)) ≡ u' * (N * xn) * (b * xd * p * (m * p) * (v * p))
psi_next a b f N D xn xd p m u v u' v' i j h =
    let top : a * xn * (u * p) * p * p ≡ a * (xn * u) * (p * p * p) = omega arith in
    let power : D * xd * (v * f) ≡ D * f * (xd * v) = omega arith in
    let bottom : b * xd * p * (m * p) * (v * p) ≡ b * m * (xd * v) * (p * p * p) = omega arith in
    let lead_power : u * (N * xn) ≡ N * (xn * u) = omega arith in
    rw (i, j, top, power, lead_power, bottom) (grouped (xn * u) (xd * v) (p * p * p))
  where
    grouped : (x y q : ℕ) → a * x * q * (D * f * y) ≡ N * x * (b * m * y * q)
    grouped x y q = omega (arith, ap (λ (k : ℕ). k * (x * y * q)) h)

pub term_is : (s : Series) (x : Fraction) (n : ℕ) → (term s x n).num * (x.den ^ n * factorial (order s n)) ≡ lead s n * x.num ^ n * (term s x n).den
unfolding terms first step fractions scaled times over factorial lead order
term_is phi x zero = rw (place_zero, pow-zero x.den, pow-zero x.num) (omega arith)
term_is psi x zero = rw (tenth, pow-zero x.den, pow-zero x.num) (omega arith)
term_is phi x (suc n) =
    rw (place_zero, pow-suc x.den n, pow-suc x.num n)
    (omega (arith, ap (λ (i : ℕ). i * (x.num * x.den * (10 ^ depth * (n + 2)))) (term_is phi x n)))
term_is psi x (suc n) =
    let t : Fraction = term psi x n in
    rw (place_zero, pow-suc x.den n, pow-suc x.num n)
    (psi_next t.num t.den (factorial (suc (suc n))) (x.num ^ n) (x.den ^ n) x.num x.den (10 ^ depth) (n + 1) (n + 2) (n + 3) (suc (suc n)) (suc (suc (suc n))) (omega arith) (omega arith)
    (omega (arith, term_is psi x n)))

-- For x at most 64 it is at most 64^n / n!.
module _ (s : Series) {x : Fraction} (p : Proper x) (h : x.num ≤ 64 * x.den) where
  pub term_small : (n : ℕ) → (term s x n).num * factorial n ≤ 64 ^ n * (term s x n).den
  unfolding terms factorial
  term_small zero = rw (pow-zero 64) (omega (arith, first_most s))
  term_small (suc n) =
      let t : Fraction = term s x n in
      let t' : Fraction = step fractions s x n t in
      rw (pow-suc 64 n)
      (smaller t.num t.den t'.num t'.den (factorial n) (64 ^ n) (suc n) (term_proper s p n).above_zero (step_most s x n t p h) (term_small n))
    where
      smaller : (a b a' b' f g m : ℕ) → 0 < b → m * a' * b ≤ 64 * a * b' → a * f ≤ g * b → a' * (m * f) ≤ g * 64 * b'
      smaller a b a' b' f g m z i k =
          le_of_mul-le-mul_right {k = b} (omega (arith, mul-le-mul_right f i, mul-le-mul_right (64 * b') k)) z

  term_most : (n : ℕ) → (term s x n).num ≤ 64 ^ n * (term s x n).den
  term_most n = omega (arith, term_small n, mul-le-mul_right {m = 1} {n = factorial n} (term s x n).num (factorial_above n))

  -- So a sum is at most 65^n.
  pub total_small : (n : ℕ) → (total s x n).num ≤ 65 ^ n * (total s x n).den
  unfolding terms fractions plus
  total_small zero = rw (pow-zero 65) (omega (arith, first_most s))
  total_small (suc n) =
      let a : ℕ = (total s x n).den * (term s x (suc n)).den in
      rw (pow-suc 65 n)
      (omega
      (arith, mul-le-mul_right (term s x (suc n)).den (total_small n), mul-le-mul_right (total s x n).den (rw (pow-suc 64 n) at (term_most (suc n))), mul-le-mul_right (64 * a) (pow-le-pow_left {n = 64} {m = 65} (lit≤ tt) n)))

  -- A sum with its last term once more falls.
  halves : (n : ℕ) → 127 ≤ n → 2 * (term s x (suc n)).num * (term s x n).den ≤ (term s x n).num * (term s x (suc n)).den
  unfolding terms
  halves n l =
      let t : Fraction = term s x n in
      let t' : Fraction = step fractions s x n t in
      half t.num t.den t'.num t'.den (suc n) (omega arith) (step_most s x n t p h)
    where
      half : (a b a' b' m : ℕ) → 128 ≤ m → m * a' * b ≤ 64 * a * b' → 2 * a' * b ≤ a * b'
      half a b a' b' m l i = omega (arith, i, mul-le-mul_right (a' * b) l)

-- φ begins with 1.
pub total_first : (x : Fraction) → 1 * (total phi x 0).den ≤ (total phi x 0).num
unfolding terms first fractions scaled
total_first x = rw place_zero (omega arith)

-- The sums rise.
pub total_rises : (s : Series) (x : Fraction) (n : ℕ) → total s x n ≤ᶠ total s x (suc n)
unfolding terms fractions plus
total_rises s x n = record { across = omega arith }

falls_on : (s t u : Fraction) → 2 * u.num * t.den ≤ t.num * u.den → plus (plus s u) u ≤ᶠ plus s t
unfolding plus
falls_on s t u h = record { across = omega (arith, mul-le-mul_right (s.den * s.den * u.den) h) }

plus_proper : {x y : Fraction} → Proper x → Proper y → Proper (plus x y)
unfolding plus
plus_proper p q = record { above_zero = mul-pos p.above_zero q.above_zero }

plus_above : (x y : Fraction) → x ≤ᶠ plus x y
unfolding plus
plus_above x y = record { across = omega arith }

-- Every later sum is at least this sum, and for x at most 64 at most this sum with its last term once more.
pub total_least : (s : Series) {x : Fraction} → Proper x → (n k : ℕ) → total s x n ≤ᶠ total s x (n + k)
total_least s {x} p n zero = rw (add-zero n) (below_itself (total s x n))
total_least s {x} p n (suc k) = rw (add-suc n k) (through (total_proper s p (n + k)) (total_least s p n k) (total_rises s x (n + k)))

module _ (s : Series) {x : Fraction} (p : Proper x) (h : x.num ≤ 64 * x.den) where
  total_falls : (n : ℕ) → 127 ≤ n → plus (total s x (suc n)) (term s x (suc n)) ≤ᶠ plus (total s x n) (term s x n)
  total_falls n l = step_on (falls_on (total s x n) (term s x n) (term s x (suc n)) (halves s p h n l))
    where
      step_on : plus (plus (total s x n) (term s x (suc n))) (term s x (suc n)) ≤ᶠ plus (total s x n) (term s x n) →
          plus (total s x (suc n)) (term s x (suc n)) ≤ᶠ plus (total s x n) (term s x n)
      step_on h = unfold terms fractions in h

  total_on : (n k : ℕ) → 127 ≤ n → plus (total s x (n + k)) (term s x (n + k)) ≤ᶠ plus (total s x n) (term s x n)
  total_on n zero l = rw (add-zero n) (below_itself (plus (total s x n) (term s x n)))
  total_on n (suc k) l =
      rw (add-suc n k)
      (through (plus_proper (total_proper s p (n + k)) (term_proper s p (n + k))) (total_falls (n + k) (omega arith)) (total_on n k l))

  pub total_most : (n k : ℕ) → 127 ≤ n → total s x (n + k) ≤ᶠ plus (total s x n) (term s x n)
  total_most n k l =
      through (plus_proper (total_proper s p (n + k)) (term_proper s p (n + k))) (plus_above (total s x (n + k)) (term s x (n + k))) (total_on n k l)

  -- The 256th term is at most one part in 4 × 10^8.
  pub last_small : (term s x 255).num * 400000000 ≤ (term s x 255).den
  last_small = cancel (term s x 255).num (term s x 255).den (factorial 255) (64 ^ 255) (term_small s p h 255) few (one-le-pow 255 64 (lit< tt))
    where
      few : 64 ^ 255 * 400000000 ≤ factorial 255
      few = unfold factorial in (lit≤ tt)

      cancel : (a b f g : ℕ) → a * f ≤ g * b → g * 400000000 ≤ f → 0 < g → a * 400000000 ≤ b
      cancel a b f g p q r = le_of_mul-le-mul_right (omega (arith, mul-le-mul_right a q)) r

-- A sum is at least 1/2.
pub total_half : (s : Series) (x : Fraction) (n : ℕ) → (total s x n).den ≤ 2 * (total s x n).num
unfolding terms fractions plus
total_half s x zero = first_least s
total_half s x (suc n) = omega (arith, mul-le-mul_right (term s x (suc n)).den (total_half s x n))
