-- Parts of lists: taken, dropped, set and put together. Assumes nothing.
use Prim.Native.Nat.{ℕ, zero, suc, ◌+◌, ◌-◌, ◌≤◌, ◌<◌}
use native.Mathlib.Nat.{le_refl, zero-add, suc-add, le_of_suc-le-suc, not-suc-le-zero, suc_inj}
use native.Mathlib.Omega.{arith}
use mathlib.Core.Path.{◌≡◌, refl, sym, ap, ◌∙◌, subst}
use mathlib.Core.List.{List, [], ◌∷◌, ◌++◌}
use lib.ListN.{length, take, drop, set, length-take, length-drop, get_or}
use lib.Seq.{take_all, take-nil}

-- a list of no elements
pub none : (l : List ℕ) → length l ≡ 0 → l ≡ []
none [] h = refl
none (x ∷ xs) h = absurd (omega arith)

-- the part from k to the end
pub tail_part : (s : List ℕ) (k : ℕ) → take (length s - k) (drop k s) ≡ drop k s
tail_part s k = take_all (length s - k) (drop k s) (subst (λ (n : ℕ). length (drop k s) ≤ n) (length-drop k s) (le_refl (length (drop k s))))

pub take_short : (n : ℕ) (s : List ℕ) → length (take n s) ≤ n
take_short n s = omega (arith, length-take n s)

pub drop_take : (k m : ℕ) (s : List ℕ) → drop k (take (k + m) s) ≡ take m (drop k s)
drop_take zero m s = ap (λ (n : ℕ). take n s) (zero-add m)
drop_take (suc k) m [] = ap (drop (suc k)) (take-nil (suc k + m)) ∙ sym (take-nil m)
drop_take (suc k) m (x ∷ xs) = ap (λ (n : ℕ). drop (suc k) (take n (x ∷ xs))) (suc-add k m) ∙ drop_take k m xs

pub drop_set : (l : List ℕ) (k a : ℕ) → k < length l → drop k (set l k a) ≡ a ∷ drop (suc k) l
drop_set [] k a h = absurd (not-suc-le-zero h)
drop_set (x ∷ l) zero a h = refl
drop_set (x ∷ l) (suc k) a h = drop_set l k a (le_of_suc-le-suc h)

-- texts after texts of equal length
pub parts : (a b c d : List ℕ) → length a ≡ length b → a ++ c ≡ b ++ d → (a ≡ b) × (c ≡ d)
parts [] [] c d l e = (refl, e)
parts [] (y ∷ b) c d l e = absurd (omega arith)
parts (x ∷ a) [] c d l e = absurd (omega arith)
parts (x ∷ a) (y ∷ b) c d l e =
    let r = parts a b c d (suc_inj l) (cc) in
    let h : x ≡ y = cc in
    (cc, r.1)

-- the last byte of a text
pub last : ℕ → List ℕ → ℕ
last a [] = a
last a (x ∷ xs) = last x xs

pub last_snoc : (a : ℕ) (xs : List ℕ) (x : ℕ) → last a (xs ++ (x ∷ [])) ≡ x
unfolding last
last_snoc a [] x = refl
last_snoc a (y ∷ xs) x = last_snoc y xs x

-- what is set to the default reads as the default, within the list or not
pub blank_at : {A : Type 0} (l : List A) (k : ℕ) (d : A) → get_or (set l k d) k d ≡ d
blank_at [] k d = refl
blank_at (x ∷ l) zero d = refl
blank_at (x ∷ l) (suc k) d = blank_at l k d

-- an element that a list has is read alike whatever stands for a missing one
pub read_any : {A : Type 0} (xs : List A) (k : ℕ) → k < length xs → (d e : A) → get_or xs k d ≡ get_or xs k e
read_any [] k h d e = absurd (not-suc-le-zero h)
read_any (x ∷ xs) zero h d e = refl
read_any (x ∷ xs) (suc k) h d e = read_any xs k (le_of_suc-le-suc h) d e
