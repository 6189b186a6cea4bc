-- The number that digits spell, one digit at a time.
-- Assumes nothing.
use Prim.Native.Nat.{ℕ, suc, ◌+◌, ◌*◌, ◌-◌, ◌^◌, ◌≤◌, ◌<◌}
use native.Mathlib.Nat.{le_trans, mul-le-mul_left, mul-le-mul_right, mul_comm, mul_assoc, pow-suc, one-le-pow, mul-one, pow-zero}
use native.Mathlib.Numerals.{add-one}
use native.Mathlib.Omega.{arith}
use mathlib.Core.Path.{◌≡◌, refl, sym, ap, ◌∙◌, subst}
use mathlib.Core.Bool.{Bool, true, false, cond}
use mathlib.Core.List.{List, [], ◌∷◌, ◌++◌}
use borrow.Author.Tests.{leb-true}
use lib.Dec.{leb, lit≤}
use lib.ListN.{length, take, get_or}
use lib.Seq.{take-suc}
use Rattle.spelling.specs.Columns.{within, leading, digits_value}
use Rattle.lists.proofs.Booleans.{both}

pub within_bounds_lem : (lo hi b : ℕ) → within lo hi b ≡ true → (lo ≤ b) × (b ≤ hi)
unfolding within
within_bounds_lem lo hi b h =
    let p = both (leb lo b) (leb b hi) h in
    (leb-true lo b p.0, leb-true b hi p.1)

-- ---- the bytes that `leading` counts
leading_cons_le : (t : Bool) (n m : ℕ) → n ≤ m → cond t (suc n) 0 ≤ suc m
leading_cons_le true n m h = omega arith
leading_cons_le false n m h = omega arith

pub leading_le : (lo hi : ℕ) (s : List ℕ) → leading lo hi s ≤ length s
unfolding leading
leading_le lo hi [] = omega arith
leading_le lo hi (b ∷ bs) = leading_cons_le (within lo hi b) (leading lo hi bs) (length bs) (leading_le lo hi bs)

take_cons : (lo hi b : ℕ) (bs : List ℕ) (t : Bool) → within lo hi b ≡ t
    → leading lo hi (take (leading lo hi bs) bs) ≡ length (take (leading lo hi bs) bs)
    → leading lo hi (take (cond t (suc (leading lo hi bs)) 0) (b ∷ bs)) ≡ length (take (cond t (suc (leading lo hi bs)) 0) (b ∷ bs))
unfolding leading
take_cons lo hi b bs true e h = simp e (ap suc h)
take_cons lo hi b bs false e h = refl

-- the part that was counted holds nothing else
pub leading_take : (lo hi : ℕ) (s : List ℕ) → leading lo hi (take (leading lo hi s) s) ≡ length (take (leading lo hi s) s)
unfolding leading
leading_take lo hi [] = refl
leading_take lo hi (b ∷ bs) = take_cons lo hi b bs (within lo hi b) refl (leading_take lo hi bs)

-- ---- the number that digits spell
pub digits_value_append : (n : ℕ) (xs ys : List ℕ) → digits_value n (xs ++ ys) ≡ digits_value (digits_value n xs) ys
unfolding digits_value
digits_value_append n [] ys = refl
digits_value_append n (x ∷ xs) ys = digits_value_append (n * 10 + (x - 48)) xs ys

-- one digit more
pub digits_value_turn : (s : List ℕ) (from v i : ℕ) → i < length s → digits_value from (take i s) ≡ v
    → digits_value from (take (i + 1) s) ≡ v * 10 + (get_or s i 0 - 48)
unfolding digits_value
digits_value_turn s from v i h e =
    rw (add-one, take-suc s i 0)
    (digits_value_append from (take i s) (get_or s i 0 ∷ []) ∙ ap (λ (n : ℕ). n * 10 + (get_or s i 0 - 48)) e)

pub digits_value_stop : (s : List ℕ) (from v i n : ℕ) → i ≡ n → digits_value from (take i s) ≡ v → v ≡ digits_value from (take n s)
digits_value_stop s from v i n h e = sym e ∙ ap (λ (k : ℕ). digits_value from (take k s)) h

-- room for k digits more
pub room_turn : (v d k M : ℕ) → d ≤ 9 → (v + 1) * 10 ^ suc k ≤ M → (v * 10 + d + 1) * 10 ^ k ≤ M
room_turn v d k M h r =
    le_trans (mul-le-mul_right (10 ^ k) (omega arith))
    (subst (λ (n : ℕ). n ≤ M) (ap (λ (n : ℕ). (v + 1) * n) (pow-suc 10 k ∙ mul_comm (10 ^ k) 10) ∙ sym (mul_assoc (v + 1) 10 (10 ^ k))) r)

pub room_now : (v k M : ℕ) → (v + 1) * 10 ^ k ≤ M → v + 1 ≤ M
room_now v k M r = le_trans (subst (λ (n : ℕ). n ≤ (v + 1) * 10 ^ k) (mul-one (v + 1)) (mul-le-mul_left (v + 1) (one-le-pow k 10 (lit≤ tt)))) r

pub room_loop : (v d i n M : ℕ) → d ≤ 9 → i < n → (v + 1) * 10 ^ (n - i) ≤ M → (v * 10 + d + 1) * 10 ^ (n - (i + 1)) ≤ M
room_loop v d i n M h l r =
    let e : n - i ≡ suc (n - (i + 1)) = omega arith in
    room_turn v d (n - (i + 1)) M h (subst (λ (k : ℕ). (v + 1) * 10 ^ k ≤ M) e r)

pub room_digit : (s : List ℕ) (v i M : ℕ) → within 48 57 (get_or s i 0) ≡ true → i < length s → (v + 1) * 10 ^ (length s - i) ≤ M
    → (v * 10 + (get_or s i 0 - 48) + 1) * 10 ^ (length s - (i + 1)) ≤ M
room_digit s v i M digit here r = room_loop v (get_or s i 0 - 48) i (length s) M (omega (arith, within_bounds_lem 48 57 (get_or s i 0) digit)) here r

pub room_start : (v : ℕ) (s : List ℕ) (M : ℕ) → (v + 1) * 10 ^ length s ≤ M → (v + 1) * 10 ^ (length s - 0) ≤ M
room_start v s M r = let e : length s - 0 ≡ length s = omega arith in rw e r

pub digit_first : (t : Bool) (n m : ℕ) → cond t (suc n) 0 ≡ suc m → (t ≡ true) × (n ≡ m)
digit_first true n m e = (refl, omega arith)
digit_first false n m e = absurd (let z : 0 ≡ suc m = e in omega arith)

-- what digits spell lies below the power of ten with as many zeros
pub digits_value_below : (s : List ℕ) → leading 48 57 s ≡ length s → (v n : ℕ) → v + 1 ≤ n → digits_value v s + 1 ≤ n * 10 ^ length s
unfolding digits_value leading
digits_value_below [] e v n h = subst (λ (k : ℕ). v + 1 ≤ k) (sym (ap (λ (k : ℕ). n * k) (pow-zero 10) ∙ mul-one n)) h
digits_value_below (d ∷ ds) e v n h =
    let f = digit_first (within 48 57 d) (leading 48 57 ds) (length ds) e in
    let b = within_bounds_lem 48 57 d f.0 in
    subst (λ (k : ℕ). digits_value (v * 10 + (d - 48)) ds + 1 ≤ k)
    (mul_assoc n 10 (10 ^ length ds) ∙ ap (λ (k : ℕ). n * k) (mul_comm 10 (10 ^ length ds) ∙ sym (pow-suc 10 (length ds))))
    (digits_value_below ds f.1 (v * 10 + (d - 48)) (n * 10) (omega arith))
