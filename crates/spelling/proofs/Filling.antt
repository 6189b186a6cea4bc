-- Columns filled from the right: the digits of a number, and the spaces before them, one column at a time.
-- Assumes nothing.
use mathlib.Core.Path.{◌≡◌, refl, sym, ap, ◌∙◌, subst}
use mathlib.Core.Bool.{Bool, true, false, cond}
use mathlib.Core.List.{List, [], ◌∷◌, ◌++◌, append_assoc, append-nil}
use Prim.Native.Nat.{ℕ, zero, suc, ◌+◌, ◌-◌, ◌/◌, ◌≤◌, ◌<◌, zero-le}
use native.Mathlib.Nat.{sub-zero}
use native.Mathlib.Numerals.{add-one}
use native.Mathlib.Omega.{arith}
use borrow.Author.Tests.{eq-eqb, ne_eqb}
use lib.Dec.{eqb}
use lib.Seq.{drop-cons, set_at}
use lib.ListN.{length, get_or, drop, set, replicate, length-append, length-replicate, replicate-append-replicate, drop_of_length-le}
use Rattle.spelling.specs.Columns.{digits, digit, decimal, justified, number, dash, in_columns, number_in, dash_in}
use Rattle.lists.proofs.ListLaws.{drop_set}

length_cond : (b : Bool) (k d : ℕ) (ds : List ℕ) → length ds ≤ k → length (cond b [] (ds ++ (d ∷ []))) ≤ suc k
length_cond true k d ds h = zero-le
length_cond false k d ds h = simp length-append (omega arith)

pub length_digits : (k n : ℕ) → length (digits k n) ≤ k
unfolding digits
length_digits zero n = zero-le
length_digits (suc k) n = length_cond (eqb n 0) k (digit n) (digits k (n / 10)) (length_digits k (n / 10))

pub length_justified : (w : ℕ) (text : List ℕ) → length text ≤ w → length (justified w text) ≡ w
unfolding justified
length_justified w text h = simp (length-append, length-replicate) (omega arith)

pub justified_snoc : (k d : ℕ) (ds : List ℕ) → length ds ≤ k → justified (suc k) (ds ++ (d ∷ [])) ≡ justified k ds ++ (d ∷ [])
unfolding justified
justified_snoc k d ds h =
    let e : suc k - length (ds ++ (d ∷ [])) ≡ k - length ds = simp length-append (omega arith) in
    simp (e, append_assoc)

pub no_digits : (k : ℕ) → digits k 0 ≡ []
unfolding digits
no_digits zero = refl
no_digits (suc k) = refl

digits_more : (k n : ℕ) → 0 < n → justified (suc k) (digits (suc k) n) ≡ justified k (digits k (n / 10)) ++ (digit n ∷ [])
unfolding digits
digits_more k n h = simp (ne_eqb n 0 (λ z. omega arith)) (justified_snoc k (digit n) (digits k (n / 10)) (length_digits k (n / 10)))

filled_below : (k n b : ℕ) (part whole : List ℕ) → k < length part → 0 < n → b ≡ digit n
    → justified (suc k) (digits (suc k) n) ++ drop (suc k) part ≡ whole → justified k (digits k (n / 10)) ++ drop k (set part k b) ≡ whole
filled_below k n b part whole h some v e =
    ap (λ (l : List ℕ). justified k (digits k (n / 10)) ++ l)
    (drop_set part k b h ∙ ap (λ (x : ℕ). x ∷ drop (suc k) part) v)
    ∙ sym (append_assoc (justified k (digits k (n / 10))) (digit n ∷ []) (drop (suc k) part))
    ∙ ap (λ (l : List ℕ). l ++ drop (suc k) part) (sym (digits_more k n some))
    ∙ e

-- a digit more
pub filled_more : (at n b : ℕ) (part whole : List ℕ) → 0 < at → at ≤ length part → 0 < n → b ≡ digit n
    → justified at (digits at n) ++ drop at part ≡ whole
    → justified (at - 1) (digits (at - 1) (n / 10)) ++ drop (at - 1) (set part (at - 1) b) ≡ whole
filled_more at n b part whole pos h some v e =
    let up : at ≡ suc (at - 1) = omega arith in
    filled_below (at - 1) n b part whole (omega arith) some v (subst (λ (m : ℕ). justified m (digits m n) ++ drop m part ≡ whole) up e)

-- no digit is left: spaces
pub filled_spaced : (at : ℕ) (part whole : List ℕ) → justified at (digits at 0) ++ drop at part ≡ whole → replicate at 32 ++ drop at part ≡ whole
unfolding justified
filled_spaced at part whole e = simp (no_digits, sub-zero, append-nil) at e

-- a space more
pub spaced_more : (k : ℕ) (part : List ℕ) → k < length part → set (replicate k 32 ++ drop k part) k 32 ≡ replicate (k + 1) 32 ++ drop (k + 1) part
spaced_more k part h =
    ap (λ (l : List ℕ). set (replicate k 32 ++ l) k 32) (drop-cons part k 0 h)
    ∙ set_at (replicate k 32) (get_or part k 0) (drop (suc k) part) 32 k (length-replicate k 32)
    ∙ sym (append_assoc (replicate k 32) (32 ∷ []) (drop (suc k) part))
    ∙ ap (λ (l : List ℕ). l ++ drop (suc k) part) (replicate-append-replicate k 1 32)
    ∙ ap (λ (m : ℕ). replicate (k + 1) 32 ++ drop m part) (sym (add-one k))

-- the last column is filled
pub filled_last : (n last : ℕ) (part : List ℕ) → 0 < length part
    → justified (length part - 1) (digits (length part - 1) n) ++ drop (length part - 1) (set part (length part - 1) last)
    ≡ justified (length part) (digits (length part - 1) n ++ (last ∷ []))
filled_last n last part pos =
    let k : ℕ = length part - 1 in
    let up : suc k ≡ length part = omega arith in
    let here : k < length part = omega arith in
    let past : length part ≤ suc k = omega arith in
    ap (λ (l : List ℕ). justified k (digits k n) ++ l)
    (drop_set part k last here ∙ ap (λ (l : List ℕ). last ∷ l) (drop_of_length-le part past))
    ∙ sym (justified_snoc k last (digits k n) (length_digits k n))
    ∙ ap (λ (m : ℕ). justified m (digits k n ++ (last ∷ []))) up

-- no column is left
pub filled_all : (n : ℕ) (part whole : List ℕ) → justified 0 (digits 0 n) ++ drop 0 part ≡ whole → part ≡ whole
unfolding justified digits
filled_all n part whole e = e

-- a number's columns
pub length_number : (w n : ℕ) → 0 < w → length (number w n) ≡ w
unfolding number decimal
length_number w n h =
    length_justified w (digits (w - 1) (n / 10) ++ (digit n ∷ [])) (simp length-append (omega (arith, length_digits (w - 1) (n / 10))))

-- what a part filled with a number's last digit and those before it holds
pub number_filled : (part : List ℕ) (w m n b : ℕ) → m ≡ w → b ≡ digit n → part ≡ justified m (digits (m - 1) (n / 10) ++ (b ∷ [])) → part ≡ number w n
unfolding number decimal
number_filled part w m n b em eb e =
    e
    ∙ ap (λ (x : ℕ). justified x (digits (x - 1) (n / 10) ++ (b ∷ []))) em
    ∙ ap (λ (x : ℕ). justified w (digits (w - 1) (n / 10) ++ (x ∷ []))) eb

-- and one filled with a lone byte
pub byte_filled : (part : List ℕ) (w m b : ℕ) → m ≡ w → part ≡ justified m (digits (m - 1) 0 ++ (b ∷ [])) → part ≡ justified w (b ∷ [])
byte_filled part w m b em e =
    e
    ∙ ap (λ (x : List ℕ). justified m (x ++ (b ∷ []))) (no_digits (m - 1))
    ∙ ap (λ (x : ℕ). justified x (b ∷ [])) em

-- ---- all columns of a part, or a part of none
pub columns_none : (part text : List ℕ) → length part ≡ 0 → part ≡ in_columns part text
unfolding in_columns
columns_none part text h = simp (eq-eqb (length part) 0 h)

pub columns_some : (part text r : List ℕ) → (length part ≡ 0 → ⊥) → r ≡ justified (length part) text → r ≡ in_columns part text
unfolding in_columns
columns_some part text r h e = simp (ne_eqb (length part) 0 h) e

module _ (part r : List ℕ) (w : ℕ) (wide : length part ≡ w) (some : 0 < w) where
  not_none : eqb (length part) 0 ≡ false
  not_none = ne_eqb (length part) 0 (λ z. omega arith)

  pub number_in_lem : (n : ℕ) → r ≡ number_in part n → r ≡ number w n
  unfolding number_in in_columns number
  number_in_lem n e = (simp not_none at e) ∙ ap (λ (m : ℕ). justified m (decimal m n)) wide

  pub dash_in_lem : r ≡ dash_in part → r ≡ justified w dash
  unfolding dash_in in_columns
  dash_in_lem e = (simp not_none at e) ∙ ap (λ (m : ℕ). justified m dash) wide
