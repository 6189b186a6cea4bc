-- Laws of the exact comparisons, by multiplying across where the product fits, else by division: from 10 ^ 10 on, against 32 bits, and from 10 ^ 20 on, against 64, a power of ten decides alone.
-- Assumes nothing.
use Prim.Native.Nat.{ℕ, suc, ◌+◌, ◌*◌, ◌-◌, ◌/◌, ◌^◌, ◌≤◌, ◌<◌}
use native.Mathlib.Nat.{le_trans, lt_of_lt_of_le, lt_of_le_of_lt, mul-one, one-mul, zero-mul, mul_assoc, pow-suc, mul-le-mul, mul-le-mul_right, pow-le-pow_right, one-le-pow, le_of_mul-le-mul_right, eq-zero-or-pos, mul-lt-mul_of_pos_right, le-div_iff_mul-le, div-lt_iff_lt-mul}
use native.Mathlib.Omega.{arith}
use lib.Pow.{pow-add}
use mathlib.Core.Path.{◌≡◌, refl, sym, ap, subst, ◌∙◌}
use mathlib.Core.Bool.{Bool, true, false, not}
use mathlib.Core.Logic.{⊎_elim}
use borrow.Author.Tests.{eq-eqb, ne_eqb, le-leb, lt-leb, leb-true, leb-false, not-true, not-false}
use lib.Dec.{leb, ltb, eqb, lit≤, lit<}
use lib.IntN.{ℤ, pos, negsuc}
use mir.Syntax.{w64}
use mir.Val.{Fits}
use Rattle.powers.specs.Powers.{above, below}
use Rattle.cases.specs.Ranges.{value_at_most, value_at_least, within_bounds, is_year_of}
use Rattle.slots.specs.Slots.{year_of}
use Rattle.slots.specs.declared.Guidance.{Guidance}
use Rattle.slots.specs.declared.Guidance.TheVariants.{Of2005, Of2009}
use Rattle.slots.specs.declared.Rule.{Rule}

pub ten_some : (n v : ℕ) → v ≡ 10 ^ n → 0 < v
ten_some n v e = rw e (one-le-pow n 10 (lit≤ tt))

-- where the largest such product fits 64 bits, every one does
pub product_fits : (most places : ℕ) → most * 10 ^ places < 2 ^ 64 → (d n v : ℕ) → d ≤ most → n ≤ places → v ≡ 10 ^ n → Fits w64 (d * v)
product_fits most places room d n v h s e =
    record { fits = subst (λ (m : ℕ). d * m < 2 ^ 64) (sym e) (lt_of_le_of_lt (mul-le-mul h (pow-le-pow_right (lit≤ tt) s)) room) }

-- a power of ten lies on one side of 0 only
one_side : (z : ℤ) → 0 < above z → below z ≡ 0
unfolding above below
one_side (pos n) h = refl
one_side (negsuc n) h = absurd (omega arith)

other_side : (z : ℤ) → 0 < below z → above z ≡ 0
unfolding above below
other_side (pos n) h = absurd (omega arith)
other_side (negsuc n) h = refl

-- a power that is not above 0 leaves the digits whole
whole : (digits : ℕ) (z : ℤ) → above z ≤ 0 → digits * 10 ^ above z ≡ digits
whole digits z low = let u : above z ≡ 0 = omega arith in ap (λ (n : ℕ). digits * 10 ^ n) u ∙ mul-one digits

-- and one above 0 leaves the other side whole
other_whole : (n : ℕ) (z : ℤ) → 0 < above z → n * 10 ^ below z ≡ n
other_whole n z high = ap (λ (k : ℕ). n * 10 ^ k) (one_side z high) ∙ mul-one n

-- two tests agree where each follows from the other
module _ (a b c d : ℕ) (f : a ≤ b → c ≤ d) (g : c ≤ d → a ≤ b) where
  agree : (t u : Bool) → leb a b ≡ t → leb c d ≡ u → leb a b ≡ leb c d
  agree true true p q = p ∙ sym q
  agree true false p q = absurd (let x = f (leb-true a b p) in let y = leb-false c d q in omega arith)
  agree false true p q = absurd (let x = g (leb-true c d q) in let y = leb-false a b p in omega arith)
  agree false false p q = p ∙ sym q

  leb_same : leb a b ≡ leb c d
  leb_same = agree (leb a b) (leb c d) refl refl

-- at most: a power above 0 divides the largest value; one below 0 divides the digits, less one so that a remainder counts
module _ (most digits : ℕ) (z : ℤ) (some : 0 < digits) where
  pub above_all : most < 2 ^ 32 → 9 < above z → false ≡ value_at_most most digits z
  unfolding value_at_most
  above_all fits h =
      let t : 10 ^ 10 ≤ 10 ^ above z = pow-le-pow_right (lit≤ tt) h in
      let m : 1 * 10 ^ 10 ≤ digits * 10 ^ above z = mul-le-mul some t in
      let b = other_whole most z (omega arith) in
      sym (lt-leb (digits * 10 ^ above z) (most * 10 ^ below z) (omega arith))

  pub above_near : 0 < above z → (v : ℕ) → v ≡ 10 ^ above z → leb digits (most / v) ≡ value_at_most most digits z
  unfolding value_at_most
  above_near h v e =
      let i = le-div_iff_mul-le {k = 10 ^ above z} {x = digits} {y = most} (one-le-pow (above z) 10 (lit≤ tt)) in
      rw (other_whole most z h, e) (leb_same digits (most / 10 ^ above z) (digits * 10 ^ above z) most i.0 i.1)

  module _ (low : above z ≤ 0) where
    pub below_all : digits < 2 ^ 64 → 19 < below z → ltb 0 most ≡ value_at_most most digits z
    unfolding value_at_most
    below_all fits h =
        let t : 10 ^ 20 ≤ 10 ^ below z = pow-le-pow_right (lit≤ tt) h in
        rw (whole digits z low)
        (leb_same 1 most digits (most * 10 ^ below z)
        (λ p. let m : 1 * 10 ^ 20 ≤ most * 10 ^ below z = mul-le-mul p t in omega arith)
        (λ q. ⊎_elim (λ e. absurd (let n : most * 10 ^ below z ≡ 0 = ap (λ (k : ℕ). k * 10 ^ below z) e ∙ zero-mul (10 ^ below z) in omega arith)) (λ p. p)
        (eq-zero-or-pos most)))

    pub below_few : (v : ℕ) → v ≡ 10 ^ below z → leb digits (most * v) ≡ value_at_most most digits z
    unfolding value_at_most
    below_few v e = rw (whole digits z low, e) refl

    pub below_near : (v : ℕ) → v ≡ 10 ^ below z → ltb ((digits - 1) / v) most ≡ value_at_most most digits z
    unfolding value_at_most
    below_near v e =
        let i = div-lt_iff_lt-mul {k = 10 ^ below z} {x = digits - 1} {y = most} (one-le-pow (below z) 10 (lit≤ tt)) in
        rw (whole digits z low, e)
        (leb_same (suc ((digits - 1) / 10 ^ below z)) most digits (most * 10 ^ below z)
        (λ p. let l = i.0 p in omega arith) (λ p. i.1 (omega arith)))

-- at least 1E-20
module _ (digits : ℕ) (z : ℤ) (some : 0 < digits) where
  pub least_small : below z ≤ 20 → true ≡ value_at_least digits z
  unfolding value_at_least
  least_small h =
      let p : 10 ^ below z ≤ 10 ^ (above z + 20) = pow-le-pow_right (lit≤ tt) (omega arith) in
      let q : 1 * 10 ^ (above z + 20) ≤ digits * 10 ^ (above z + 20) = mul-le-mul_right (10 ^ (above z + 20)) some in
      sym (le-leb (10 ^ below z) (digits * 10 ^ (above z + 20)) (omega (arith, one-mul (10 ^ (above z + 20)))))

  module _ (far : 20 < below z) where
    scaled : digits * 10 ^ (above z + 20) ≡ digits * 10 ^ 20
    scaled = ap (λ (n : ℕ). digits * 10 ^ (n + 20)) (other_side z (omega arith))

    split : 10 ^ below z ≡ 10 ^ (below z - 20) * 10 ^ 20
    split = let e : below z ≡ below z - 20 + 20 = omega arith in ap (λ (n : ℕ). 10 ^ n) e ∙ pow-add 10 (below z - 20) 20

    pub least_far : digits < 2 ^ 64 → 19 < below z - 20 → false ≡ value_at_least digits z
    unfolding value_at_least
    least_far fits h =
        let t : 10 ^ 20 ≤ 10 ^ (below z - 20) = pow-le-pow_right (lit≤ tt) h in
        let m : digits * 10 ^ 20 < 10 ^ (below z - 20) * 10 ^ 20 = mul-lt-mul_of_pos_right (lt_of_lt_of_le fits (le_trans (lit≤ tt) t)) (lit< tt) in
        sym (lt-leb (10 ^ below z) (digits * 10 ^ (above z + 20)) (rw (scaled, split) m))

    pub least_near : (v : ℕ) → v ≡ 10 ^ (below z - 20) → leb v digits ≡ value_at_least digits z
    unfolding value_at_least
    least_near v e =
        rw (scaled, split, e)
        (leb_same (10 ^ (below z - 20)) digits (10 ^ (below z - 20) * 10 ^ 20) (digits * 10 ^ 20)
        (λ p. mul-le-mul_right (10 ^ 20) p) (λ p. le_of_mul-le-mul_right p (lit< tt)))

-- a year of a guidance: neither ends in 0, and from 10 ^ 16 on its product passes 64 bits
year_from : (guidance : Guidance) → 2005 ≤ year_of guidance
unfolding year_of
year_from Of2005 = lit≤ tt
year_from Of2009 = lit≤ tt

pub year_to : (guidance : Guidance) → year_of guidance ≤ 2009
unfolding year_of
year_to Of2005 = lit≤ tt
year_to Of2009 = lit≤ tt

no_tens : (guidance : Guidance) (n : ℕ) → n * 10 ≡ year_of guidance → ⊥
unfolding year_of
no_tens Of2005 n e = omega arith
no_tens Of2009 n e = omega arith

module _ (guidance : Guidance) (digits : ℕ) (z : ℤ) where
  pub year_above : 0 < above z → false ≡ is_year_of guidance digits z
  unfolding is_year_of
  year_above h =
      let n = above z - 1 in
      let s : above z ≡ suc n = omega arith in
      let t : digits * 10 ^ n * 10 ≡ digits * 10 ^ above z = mul_assoc digits (10 ^ n) 10 ∙ ap (λ (k : ℕ). digits * k) (sym (ap (λ (k : ℕ). 10 ^ k) s ∙ pow-suc 10 n)) in
      sym (ne_eqb (digits * 10 ^ above z) (year_of guidance * 10 ^ below z) (λ e. no_tens guidance (digits * 10 ^ n) (t ∙ e ∙ other_whole (year_of guidance) z h)))

  module _ (low : above z ≤ 0) where
    pub year_below : digits < 2 ^ 64 → 15 < below z → false ≡ is_year_of guidance digits z
    unfolding is_year_of
    year_below fits h =
        let m : 2005 * 10 ^ 16 ≤ year_of guidance * 10 ^ below z = mul-le-mul (year_from guidance) (pow-le-pow_right (lit≤ tt) h) in
        sym (ne_eqb (digits * 10 ^ above z) (year_of guidance * 10 ^ below z) (λ e. omega (arith, whole digits z low)))

    pub year_near : (y v : ℕ) → y ≡ year_of guidance → v ≡ 10 ^ below z → eqb digits (y * v) ≡ is_year_of guidance digits z
    unfolding is_year_of
    year_near y v g e = rw (whole digits z low, g, e) refl

module _ (rule : Rule) (digits : ℕ) (z : ℤ) where
  pub range_zero : digits ≡ 0 → rule.zero ≡ within_bounds rule digits z
  unfolding within_bounds
  range_zero h = simp (eq-eqb digits 0 h)

  module _ (some : digits ≡ 0 → ⊥) (r : Bool) (e : r ≡ value_at_least digits z) where
    pub range_low : not r ≡ true → false ≡ within_bounds rule digits z
    unfolding within_bounds
    range_low h = simp (ne_eqb digits 0 some, sym e ∙ not-true r h)

    pub range_high : not r ≡ false → (q : Bool) → q ≡ value_at_most rule.most digits z → q ≡ within_bounds rule digits z
    unfolding within_bounds
    range_high h q f = simp (ne_eqb digits 0 some, sym e ∙ not-false r h) f
