-- A number's digits read back as that number, where it has the columns, and the first of them is no zero.
-- Assumes nothing.
use mathlib.Core.Path.{◌≡◌, refl, ◌∙◌, subst}
use mathlib.Core.List.{List, [], ◌∷◌, ◌++◌}
use Prim.Native.Nat.{ℕ, zero, suc, ◌+◌, ◌*◌, ◌-◌, ◌/◌, ◌%◌, ◌^◌, ◌≤◌, ◌<◌}
use native.Mathlib.Nat.{le_refl, pow-suc, pow-le-pow_right}
use native.Mathlib.Omega.{arith}
use mathlib.Core.Bool.{Bool, true, false, cond}
use borrow.Author.Tests.{eqb-true, leb-true}
use lib.Dec.{leb, ltb, eqb, eqb-suc-zero, lit≤}
use lib.ListN.{length, get_or, replicate}
use Rattle.std.specs.Prelude.{IfSome, Some, None}
use Rattle.spelling.specs.Columns.{id_width, leading, digits_value, digit, digits, decimal, justified, number}
use Rattle.spelling.specs.Spelling.{digits_of, unspaced, id_spelled, id_in}
use Rattle.lists.proofs.Booleans.{both}
use Rattle.spelling.proofs.DigitLaws.{digits_value_append, digits_value_below}
use Rattle.spelling.proofs.Filling.{no_digits}

read_snoc : (n : ℕ) (ds : List ℕ) (d : ℕ) → digits_value n (ds ++ (d ∷ [])) ≡ digits_value n ds * 10 + (d - 48)
unfolding digits_value
read_snoc n ds d = digits_value_append n ds (d ∷ [])

last : (n m : ℕ) → m ≡ n / 10 → m * 10 + (48 + n % 10 - 48) ≡ n
last n m e = omega arith

shorter : (k n : ℕ) → n < 10 ^ suc k → n / 10 < 10 ^ k
shorter k n h =
    let more : n < 10 ^ k * 10 = rw pow-suc at h in
    omega arith

pub digits_read_lem : (k n : ℕ) → n < 10 ^ k → digits_value 0 (digits k n) ≡ n
unfolding digits digits_value
digits_read_lem zero n h = omega arith
digits_read_lem (suc k) zero h = refl
digits_read_lem (suc k) (suc n) h =
    simp (eqb-suc-zero n)
    (read_snoc 0 (digits k (suc n / 10)) (digit (suc n)) ∙ last (suc n) _ (digits_read_lem k (suc n / 10) (shorter k (suc n) h)))

pub decimal_read : (w n : ℕ) → 0 < w → n < 10 ^ w → digits_value 0 (decimal w n) ≡ n
unfolding decimal
decimal_read w n some h =
    let up : w ≡ suc (w - 1) = omega arith in
    read_snoc 0 (digits (w - 1) (n / 10)) (digit n)
    ∙ last n _ (digits_read_lem (w - 1) (n / 10) (shorter (w - 1) n (subst (λ (k : ℕ). n < 10 ^ k) up h)))

first_of : (ds : List ℕ) (d : ℕ) → 48 < get_or ds 0 0 → 48 < get_or (ds ++ (d ∷ [])) 0 0
first_of [] d h = omega arith
first_of (x ∷ ds) d h = h

first_after : (k n m : ℕ) → n / 10 ≡ m → 0 < n → (0 < m → 48 < get_or (digits k m) 0 0) → 48 < get_or (digits k m ++ (digit n ∷ [])) 0 0
first_after k n zero e pos earlier = rw (no_digits k) (omega arith)
first_after k n (suc m) e pos earlier = first_of (digits k (suc m)) (digit n) (earlier (omega arith))

-- the first digit is no zero
pub first_digit_lem : (k n : ℕ) → 0 < n → n < 10 ^ k → 48 < get_or (digits k n) 0 0
unfolding digits
first_digit_lem zero n pos h = omega arith
first_digit_lem (suc k) zero pos h = omega arith
first_digit_lem (suc k) (suc n) pos h =
    simp (eqb-suc-zero n)
    (first_after k (suc n) (suc n / 10) refl pos (λ p. first_digit_lem k (suc n / 10) p (shorter k (suc n) h)))

-- spaces are read as nothing
read_spaces : (k : ℕ) (ds : List ℕ) → digits_value 0 (replicate k 32 ++ ds) ≡ digits_value 0 ds
unfolding digits_value
read_spaces zero ds = refl
read_spaces (suc k) ds = read_spaces k ds

pub number_read : (w n : ℕ) → 0 < w → n < 10 ^ w → digits_value 0 (number w n) ≡ n
unfolding number justified
number_read w n some h = read_spaces (w - length (decimal w n)) (decimal w n) ∙ decimal_read w n some h

-- 0 is "0", after spaces
nought : number 2 0 ≡ 32 ∷ 48 ∷ []
unfolding number justified decimal digits
nought = refl

five_hundred : number 6 500 ≡ 32 ∷ 32 ∷ 32 ∷ 53 ∷ 48 ∷ 48 ∷ []
unfolding number justified decimal digits
five_hundred = refl

-- ---- an id has at most six digits, however many columns it stands in
spelled_small : (t : Bool) (text : List ℕ) → (t ≡ true → (length text ≤ id_width) × (leading 48 57 text ≡ length text))
    → IfSome (cond t (Some (digits_value 0 text)) None) (λ id. id < 10 ^ id_width)
spelled_small true text h =
    let most : 10 ^ length text ≤ 10 ^ id_width = pow-le-pow_right (lit≤ tt) (h refl).0 in
    omega (arith, digits_value_below text (h refl).1 0 1 (le_refl 1))
spelled_small false text h = tt

pub id_small : (columns : List ℕ) → IfSome (id_in columns) (λ id. id < 10 ^ id_width)
unfolding id_in id_spelled
id_small columns =
    let text = unspaced columns in
    spelled_small (id_spelled text) text
    (λ t.
    let b = both (leb (length text) id_width) (eqb (digits_of text) (length text)) (both (ltb 48 (get_or text 0 0)) _ t).1 in
    (leb-true (length text) id_width b.0, eqb-true (digits_of text) (length text) b.1))
