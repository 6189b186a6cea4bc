-- The zeros at the end of a number's digits, one after the other, and that the number without them is the same (`plain_same`). Assumes nothing.
use mathlib.Core.Path.{◌≡◌, refl, sym, ◌∙◌, ap}
use Prim.Native.Nat.{ℕ, zero, suc, ◌*◌, ◌+◌, ◌-◌, ◌/◌, ◌%◌, ◌^◌, min, ◌≤◌, ◌<◌}
use native.Mathlib.Nat.{one-le-pow, min-eq_left, min-le_left, div-one, div-div-eq-div-mul}
use native.Mathlib.Omega.{arith}
use mathlib.Core.Logic.{◌≢◌}
use lib.IntN.{ℤ, pos, negsuc, sub_ℕ}
use lib.Pow.{pow-add}
use mathlib.Core.Bool.{Bool, true, false, cond, ◌||◌}
use Rattle.lists.proofs.Booleans.{neither}
use lib.Dec.{lit<, eqb, ltb}
use borrow.Author.Tests.{eqb-true, eqb-false, ne_eqb, lt-ltb, le-ltb}
use Rattle.powers.specs.Powers.{ten_to, above, below}
use Rattle.cases.specs.Cases.{zeros_at_end, without_zeros, plain}
use Rattle.cases.specs.declared.Value.{Value}
use Rattle.cases.specs.declared.Value.TheVariants.{Absent, Given}

pub zero_start : (most digits : ℕ) → zeros_at_end most digits ≡ 0 + zeros_at_end (most - 0) digits
zero_start most digits = let e : most ≡ most - 0 = omega arith in let f : zeros_at_end most digits ≡ zeros_at_end (most - 0) digits = ap (λ (k : ℕ). zeros_at_end k digits) e in omega (arith, f)

module _ (most left n z : ℕ) (so_far : z ≡ n + zeros_at_end (most - n) left) where
  next : n < most → most - n ≡ suc (most - (n + 1))
  next h = omega arith

  pub zero_more : n < most → left % 10 ≡ 0 → z ≡ n + 1 + zeros_at_end (most - (n + 1)) (left / 10)
  unfolding zeros_at_end
  zero_more h e =
      let one : zeros_at_end (most - n) left ≡ suc (zeros_at_end (most - (n + 1)) (left / 10)) = ap (λ (k : ℕ). zeros_at_end k left) (next h) ∙ rw e refl in
      omega (arith, so_far, one)

  pub zero_less : n < most → (left % 10) ≢ 0 → n ≡ z
  unfolding zeros_at_end
  zero_less h e =
      let none : zeros_at_end (most - n) left ≡ 0 = ap (λ (k : ℕ). zeros_at_end k left) (next h) ∙ rw (ne_eqb (left % 10) 0 e) refl in
      omega (arith, so_far, none)

  pub zero_last : most ≤ n → n ≤ most → n ≡ z
  unfolding zeros_at_end
  zero_last h k =
      let d : most - n ≡ 0 = omega arith in
      let none : zeros_at_end (most - n) left ≡ 0 = ap (λ (i : ℕ). zeros_at_end i left) d in
      omega (arith, so_far, none)

-- ---- a value, way by way
module _ (v : Value) (power : ℤ) (digits : ℕ) (given : v ≡ Given power digits) where
  pub plain_zero : digits ≡ 0 → Given (pos 0) 0 ≡ plain v
  unfolding plain
  plain_zero e = rw (given, e) refl

  module _ (some : digits ≢ 0) where
    pub plain_whole : below power ≡ 0 → Given power digits ≡ plain v
    unfolding plain
    plain_whole e = rw (given, ne_eqb digits 0 some, e) refl

    pub plain_far : below power ≢ 0 → 999 < below power → Given power digits ≡ plain v
    unfolding plain
    plain_far z h = rw (given, ne_eqb digits 0 some, ne_eqb (below power) 0 z, lt-ltb 999 (below power) h) refl

  pub plain_near : digits ≢ 0 → below power ≢ 0 → below power ≤ 999 → (n most : ℕ) → most ≡ min (below power) 19 → n ≡ zeros_at_end most digits → without_zeros power digits n ≡ plain v
  unfolding plain
  plain_near some z h n most e f = rw (given, ne_eqb digits 0 some, ne_eqb (below power) 0 z, le-ltb 999 (below power) h, f, e) refl

-- the number as it is made: behind the point, divided by the table's power of ten
tens_are : (n : ℕ) → n ≤ 19 → ten_to n ≡ 10 ^ n
unfolding ten_to
tens_are n h = ap (λ (k : ℕ). 10 ^ k) (min-eq_left h)

pub tens_above : (n t : ℕ) → t ≡ ten_to n → 0 < t
unfolding ten_to
tens_above n t e = rw e (one-le-pow (min n 19) 10 (lit< tt))

pub without_is : (power : ℤ) (digits down n t : ℕ) (p q : ℤ) → down ≡ below power → p ≡ q → q ≡ sub_ℕ 0 (down - n) → t ≡ ten_to n → n ≤ 19 → Given p (digits / t) ≡ without_zeros power digits n
unfolding without_zeros
without_is power digits down n t p q d e f g h = rw (e, f, d, g, tens_are n h) refl

-- ---- the number stays the same
tens_whole : (digits z : ℕ) → digits % 10 ≡ 0 → digits / 10 / 10 ^ z * 10 ^ z ≡ digits / 10 → digits / 10 ^ suc z * 10 ^ suc z ≡ digits
tens_whole digits z last less =
    let parts : digits / (10 * 10 ^ z) ≡ digits / 10 / 10 ^ z = sym (div-div-eq-div-mul digits 10 (10 ^ z)) in
    let power : 10 ^ suc z ≡ 10 * 10 ^ z = omega arith in
    rw (power, parts) (omega (arith, last, ap (λ (k : ℕ). k * 10) less))

dropped_whole : (n digits : ℕ) → digits / 10 ^ zeros_at_end n digits * 10 ^ zeros_at_end n digits ≡ digits
unfolding zeros_at_end
dropped_whole zero digits = ap (λ (k : ℕ). k * 1) (div-one digits) ∙ omega arith
dropped_whole (suc n) digits = go (dropped_whole n (digits / 10)) (eqb (digits % 10) 0) refl
  where
    go : digits / 10 / 10 ^ zeros_at_end n (digits / 10) * 10 ^ zeros_at_end n (digits / 10) ≡ digits / 10 → (t : Bool) → eqb (digits % 10) 0 ≡ t → digits / 10 ^ cond t (suc (zeros_at_end n (digits / 10))) 0 * 10 ^ cond t (suc (zeros_at_end n (digits / 10))) 0 ≡ digits
    go less false e = ap (λ (k : ℕ). k * 1) (div-one digits) ∙ omega arith
    go less true e = tens_whole digits (zeros_at_end n (digits / 10)) (eqb-true (digits % 10) 0 e) less

most_zeros : (n digits : ℕ) → zeros_at_end n digits ≤ n
unfolding zeros_at_end
most_zeros zero digits = omega arith
most_zeros (suc n) digits = go (most_zeros n (digits / 10)) (eqb (digits % 10) 0)
  where
    go : zeros_at_end n (digits / 10) ≤ n → (t : Bool) → cond t (suc (zeros_at_end n (digits / 10))) 0 ≤ suc n
    go most true = omega arith
    go most false = omega arith

-- one number given twice: m × 10 ^ e and n × 10 ^ f, with both powers brought to the other side
pub record SameNumber (m : ℕ) (e : ℤ) (n : ℕ) (f : ℤ) : Type 0 where
  pub same : m * 10 ^ above e * 10 ^ below f ≡ n * 10 ^ above f * 10 ^ below e

at_itself : (m : ℕ) (e : ℤ) → SameNumber m e m e
at_itself m e = record { same = refl }

-- the parts of a power below 0
below_down : (n : ℕ) → (above (sub_ℕ 0 n) ≡ 0) × (below (sub_ℕ 0 n) ≡ n)
unfolding above below
below_down zero = (refl, refl)
below_down (suc n) = rw (lt-ltb 0 (suc n) (omega arith)) (refl, omega arith)

whole_above : (e : ℤ) → below e ≢ 0 → above e ≡ 0
unfolding above below
whole_above (pos n) h = absurd (h refl)
whole_above (negsuc n) h = refl

dropped_same : (digits n b : ℕ) → digits / 10 ^ n * 10 ^ n ≡ digits → n ≤ b → digits / 10 ^ n * 10 ^ b ≡ digits * 10 ^ (b - n)
dropped_same digits n b h l =
    let parts : 10 ^ b ≡ 10 ^ n * 10 ^ (b - n) = (let d : b ≡ n + (b - n) = omega arith in ap (λ (k : ℕ). 10 ^ k) d) ∙ pow-add 10 n (b - n) in
    rw parts (omega (arith, ap (λ (k : ℕ). k * 10 ^ (b - n)) h))

-- a value however it is given counts as its number
unfoldable pub Same : Value → Value → Type 0
Same Absent w = w ≡ Absent
Same (Given e m) Absent = ⊥
Same (Given e m) (Given f n) = SameNumber m e n f

pub plain_same : (v : Value) → Same v (plain v)
unfolding Same plain without_zeros
plain_same Absent = refl
plain_same (Given e m) = go (eqb m 0) refl (eqb (below e) 0 || ltb 999 (below e)) refl
  where
    near : below e ≢ 0 → Same (Given e m) (without_zeros e m (zeros_at_end (min (below e) 19) m))
    near z =
        let n : ℕ = zeros_at_end (min (below e) 19) m in
        let few : n ≤ below e = omega (arith, most_zeros (min (below e) 19) m, min-le_left (below e) 19) in
        let d = below_down (below e - n) in
        let k = dropped_same m n (below e) (dropped_whole (min (below e) 19) m) few in
        record { same = rw (whole_above e z, d.0, d.1) (omega (arith, k)) }

    go : (t : Bool) → eqb m 0 ≡ t → (u : Bool) → (eqb (below e) 0 || ltb 999 (below e)) ≡ u
        → Same (Given e m) (cond t (Given (pos 0) 0) (cond u (Given e m) (without_zeros e m (zeros_at_end (min (below e) 19) m))))
    go true z u h = record { same = rw (eqb-true m 0 z) (omega arith) }
    go false z true h = at_itself m e
    go false z false h = near (eqb-false (below e) 0 (neither (eqb (below e) 0) (ltb 999 (below e)) h).0)
