-- Division to a whole number, down or up. Assumes nothing.
use mathlib.Core.Path.{◌≡◌, refl, sym, ◌∙◌, ap, ap₂}
use mathlib.Core.Bool.{Bool, true, false, not, true≢false}
use Prim.Native.Nat.{ℕ, zero, suc, ◌+◌, ◌-◌, ◌*◌, ◌/◌, ◌%◌, ◌≤◌, ◌<◌}
use native.Mathlib.Nat.{le_antisymm, mul-le-mul_right, le_trans, lt_of_le_of_lt, le_of_mul-le-mul_right, lt_of_mul-lt-mul_right, mul_comm, mul-pos, mul-div-mul_right, div-add-mod', mod-lt, zero-mul, add-mul, mul_right_comm, ne_of_gt, add-zero, suc-ne-zero, mod-one, div-one}
use native.Mathlib.Omega.{arith}
use Rattle.pair.specs.Rounding.{extra, divided}

-- the remainders of one ratio written twice are both 0 or both above 0
extra_same : (up : Bool) (r s d c : ℕ) → 0 < d → 0 < c → r * c ≡ s * d → extra up r ≡ extra up s
unfolding extra
extra_same false r s d c p q e = refl
extra_same true zero zero d c p q e = refl
extra_same true (suc r) (suc s) d c p q e = refl
extra_same true zero (suc s) d c p q e = absurd (ne_of_gt (mul-pos {m = suc s} {n = d} (omega arith) p) (sym e ∙ zero-mul c))
extra_same true (suc r) zero d c p q e = absurd (ne_of_gt (mul-pos {m = suc r} {n = c} (omega arith) q) (e ∙ zero-mul d))

-- a ratio alone decides what is left of it: n / d = m / c
pub divided_same : (up : Bool) (n d m c : ℕ) → 0 < d → 0 < c → n * c ≡ m * d → divided up n d ≡ divided up m c
unfolding divided
divided_same up n d m c p q e = ap₂ ◌+◌ whole (extra_same up (n % d) (m % c) d c p q left)
  where
    whole : n / d ≡ m / c
    whole = sym (mul-div-mul_right n d q) ∙ ap₂ ◌/◌ e (mul_comm d c) ∙ mul-div-mul_right m c p

    left : n % d * c ≡ m % c * d
    left =
        let a : n / d * d * c + n % d * c ≡ n * c = sym (add-mul (n / d * d) (n % d) c) ∙ ap (λ (x : ℕ). x * c) (div-add-mod' n d) in
        let b : m / c * c * d + m % c * d ≡ m * d = sym (add-mul (m / c * c) (m % c) d) ∙ ap (λ (x : ℕ). x * d) (div-add-mod' m c) in
        let w : n / d * d * c ≡ m / c * c * d = mul_right_comm (n / d) d c ∙ ap (λ (x : ℕ). x * c * d) whole in
        omega arith

pub down_least : (n d : ℕ) → divided false n d * d ≤ n
unfolding divided extra
down_least n d = rw add-zero (omega (arith, div-add-mod' n d))

pub down_most : (n d : ℕ) → 0 < d → n < divided false n d * d + d
unfolding divided extra
down_most n d p = rw add-zero (omega (arith, div-add-mod' n d, mod-lt n p))

up_by : (n d : ℕ) (r : ℕ) → n % d ≡ r → r < d → (n ≤ (n / d + extra true r) * d) × ((n / d + extra true r) * d < n + d)
unfolding extra
up_by n d zero e l = (rw add-zero (omega (arith, div-add-mod' n d)), rw add-zero (omega (arith, div-add-mod' n d)))
up_by n d (suc r) e l = (rw (add-mul (n / d) 1 d) (omega (arith, div-add-mod' n d)), rw (add-mul (n / d) 1 d) (omega (arith, div-add-mod' n d)))

pub up_least : (n d : ℕ) → 0 < d → n ≤ divided true n d * d
unfolding divided
up_least n d p = (up_by n d (n % d) refl (mod-lt n p)).0

pub up_most : (n d : ℕ) → 0 < d → divided true n d * d < n + d
unfolding divided
up_most n d p = (up_by n d (n % d) refl (mod-lt n p)).1

-- nine figures, or the carry to ten
pub divided_least : (up : Bool) (n d a : ℕ) → 0 < d → a * d ≤ n → a ≤ divided up n d
divided_least false n d a p h = omega (arith, lt_of_mul-lt-mul_right d {m = a} {n = divided false n d + 1} (rw (add-mul (divided false n d) 1 d) (omega (arith, down_most n d p))))
divided_least true n d a p h = le_of_mul-le-mul_right (le_trans h (up_least n d p)) p

pub down_below : (n d a : ℕ) (up : Bool) → up ≡ false → n < a * d → divided up n d < a
down_below n d a false h l = lt_of_mul-lt-mul_right d {m = divided false n d} {n = a} (lt_of_le_of_lt (down_least n d) l)
down_below n d a true h l = absurd (true≢false h)

pub divided_most : (up : Bool) (n d a : ℕ) → 0 < d → n < a * d → divided up n d ≤ a
divided_most false n d a p h = omega (arith, down_below n d a false refl h)
divided_most true n d a p h = omega (arith, lt_of_mul-lt-mul_right d {m = divided true n d} {n = a + 1} (rw (add-mul a 1 d) (omega (arith, up_most n d p))))

-- r is n / d, rounded to a whole number: what tells it, and tells it alone
abbrev pub Whole : Bool → ℕ → ℕ → ℕ → Type 0
Whole false n d r = (r * d ≤ n) × (n < r * d + d)
Whole true n d r = (n ≤ r * d) × (r * d < n + d)

pub divided_is : (up : Bool) (n d : ℕ) → 0 < d → Whole up n d (divided up n d)
divided_is false n d p = (down_least n d, down_most n d p)
divided_is true n d p = (up_least n d p, up_most n d p)

not_above : (d r s : ℕ) → r * d < s * d + d → r ≤ s
not_above d r s h = omega (arith, lt_of_mul-lt-mul_right d {m = r} {n = s + 1} (rw (add-mul s 1 d) (omega arith)))

pub divided_from : (up : Bool) (n d r : ℕ) → 0 < d → Whole up n d r → divided up n d ≡ r
divided_from up n d r p w = only up (divided up n d) (divided_is up n d p) w
  where
    only : (up : Bool) (s : ℕ) → Whole up n d s → Whole up n d r → s ≡ r
    only false s v w = le_antisymm (not_above d s r (omega arith)) (not_above d r s (omega arith))
    only true s v w = le_antisymm (not_above d s r (omega arith)) (not_above d r s (omega arith))

-- m more, and m less what is rounded the other way
pub divided_more : (up : Bool) (m n d : ℕ) → 0 < d → divided up (m * d + n) d ≡ m + divided up n d
divided_more up m n d p = divided_from up (m * d + n) d (m + divided up n d) p (more up (divided up n d) (divided_is up n d p))
  where
    more : (up : Bool) (r : ℕ) → Whole up n d r → Whole up (m * d + n) d (m + r)
    more false r w = (omega (arith, add-mul m r d), omega (arith, add-mul m r d))
    more true r w = (omega (arith, add-mul m r d), omega (arith, add-mul m r d))

pub divided_less : (up : Bool) (m n d : ℕ) → 0 < d → n ≤ m * d → divided up (m * d - n) d ≡ m - divided (not up) n d
divided_less up m n d p h = divided_from up (m * d - n) d (m - divided (not up) n d) p (less up (divided (not up) n d) (divided_is (not up) n d p))
  where
    rest : (r : ℕ) → r ≤ m → (m - r) * d + r * d ≡ m * d
    rest r l = sym (add-mul (m - r) r d) ∙ ap (λ (x : ℕ). x * d) (omega arith)

    less : (up : Bool) (r : ℕ) → Whole (not up) n d r → Whole up (m * d - n) d (m - r)
    less false r w = let e = rest r (not_above d r m (omega arith)) in (omega arith, omega arith)
    less true r w = let e = rest r (not_above d r m (omega arith)) in (omega arith, omega arith)

-- dividing by d and then by c, in one direction, is dividing by d × c
pub divided_twice : (up : Bool) (n d c : ℕ) → 0 < d → 0 < c → divided up (divided up n d) c ≡ divided up n (d * c)
divided_twice up n d c p q =
    sym (divided_from up n (d * c) (divided up (divided up n d) c) (mul-pos p q) (twice up (divided up n d) (divided up (divided up n d) c) (divided_is up n d p) (divided_is up (divided up n d) c q)))
  where
    twice : (up : Bool) (a b : ℕ) → Whole up n d a → Whole up a c b → Whole up n (d * c) b
    twice false a b v w = (omega (arith, mul-le-mul_right d w.0), omega (arith, mul-le-mul_right {m = a + 1} {n = b * c + c} d (omega arith)))
    twice true a b v w = (omega (arith, mul-le-mul_right d w.0), omega (arith, mul-le-mul_right {m = b * c + 1} {n = a + c} d (omega arith)))

-- a part of one, whichever it is
pub divided_part : (up : Bool) (n d : ℕ) → 0 < n → n < d → divided up 1 10 ≡ divided up n d
unfolding divided extra
divided_part false n d p h = sym (divided_from false n d 0 (omega arith) (omega arith, omega arith))
divided_part true n d p h = sym (divided_from true n d 1 (omega arith) (omega arith, omega arith))

-- the two ways that the code tells apart
pub divided_down : (n d : ℕ) (up : Bool) → up ≡ false → divided up n d ≡ n / d
unfolding divided extra
divided_down n d false h = add-zero (n / d)
divided_down n d true h = absurd (true≢false h)

pub divided_up : (n d : ℕ) (up : Bool) → up ≡ true → 0 < d → divided up n d ≡ (n + (d - 1)) / d
divided_up n d false h p = absurd (true≢false (sym h))
divided_up n d true h p =
    divided_from true n d ((n + (d - 1)) / d) p
    (omega (arith, div-add-mod' (n + (d - 1)) d, mod-lt (n + (d - 1)) p), omega (arith, div-add-mod' (n + (d - 1)) d))

extra_none : (up : Bool) (r : ℕ) → r ≡ 0 → extra up r ≡ 0
unfolding extra
extra_none false r h = refl
extra_none true zero h = refl
extra_none true (suc r) h = absurd (suc-ne-zero r h)

pub divided_even : (n d : ℕ) (up : Bool) → n % d ≡ 0 → divided up n d ≡ n / d
unfolding divided
divided_even n d up h = ap (λ (x : ℕ). n / d + x) (extra_none up (n % d) h) ∙ add-zero (n / d)

pub divided_one : (up : Bool) (m : ℕ) → divided up m 1 ≡ m
divided_one up m = divided_even m 1 up (mod-one m) ∙ div-one m
