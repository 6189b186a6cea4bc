-- A list that is made place by place, as a loop fills an array. Assumes nothing.
use Prim.Native.Nat.{ℕ, zero, suc, ◌+◌, ◌-◌, ◌<◌}
use native.Mathlib.Nat.{le_of_suc-le-suc, not-suc-le-zero, eq-or-lt_of_le}
use native.Mathlib.Numerals.{add-one}
use native.Mathlib.Omega.{arith}
use mathlib.Core.Path.{◌≡◌, refl, sym, ap, ◌∙◌, subst}
use mathlib.Core.List.{List, [], ◌∷◌, ◌++◌, map}
use lib.ListN.{length, set, replicate, length-append, get_or, get_or-append, length-replicate, length-map, get_or-map}
use lib.Seq.{set_at, append_snoc, get_or_at, ext_get_or}
use Rattle.lists.specs.Lists.{tabulate}
use Rattle.lists.proofs.ListLaws.{none}
use mathlib.Core.Logic.{⊎_elim}

-- ---- an array that a loop fills
module _ {A : Type 0} (f : ℕ → A) (none : A) (room : ℕ) where
  pub length_tabulate : (k : ℕ) → length (tabulate k f) ≡ k
  unfolding tabulate
  length_tabulate zero = refl
  length_tabulate (suc k) = length-append (tabulate k f) (f k ∷ []) ∙ omega (arith, length_tabulate k)

  one_less : (k : ℕ) → k < room → replicate (room - k) none ≡ none ∷ replicate (room - (k + 1)) none
  one_less k h = let e : room - k ≡ suc (room - (k + 1)) = omega arith in ap (λ (m : ℕ). replicate m none) e

  pub filled_start : replicate room none ≡ tabulate 0 f ++ replicate (room - 0) none
  unfolding tabulate
  filled_start = let e : room ≡ room - 0 = omega arith in ap (λ (m : ℕ). replicate m none) e

  pub filled_more : (k : ℕ) → k < room → (xs : List A) → xs ≡ tabulate k f ++ replicate (room - k) none → (v : A) → v ≡ f k
      → set xs k v ≡ tabulate (k + 1) f ++ replicate (room - (k + 1)) none
  unfolding tabulate
  filled_more k h xs e v g =
      ap (λ (l : List A). set l k v) (e ∙ ap (λ (l : List A). tabulate k f ++ l) (one_less k h))
      ∙ set_at (tabulate k f) none (replicate (room - (k + 1)) none) v k (length_tabulate k)
      ∙ ap (λ (x : A). tabulate k f ++ (x ∷ replicate (room - (k + 1)) none)) g
      ∙ sym (ap (λ (m : ℕ). tabulate m f ++ replicate (room - (k + 1)) none) (add-one k) ∙ append_snoc (tabulate k f) (f k) (replicate (room - (k + 1)) none))

-- ---- what stands in an array that a loop filled
pub tabulated : {A : Type 0} (f : ℕ → A) (d : A) (n k : ℕ) → k < n → get_or (tabulate n f) k d ≡ f k
unfolding tabulate
tabulated f d zero k h = absurd (not-suc-le-zero h)
tabulated f d (suc n) k h =
    ⊎_elim
    (λ q. get_or_at (tabulate n f) (f n) [] d k (length_tabulate f d 0 n ∙ sym q) ∙ ap f (sym q))
    (λ l. get_or-append (tabulate n f) (f n ∷ []) d k (subst (λ (m : ℕ). k < m) (sym (length_tabulate f d 0 n)) l) ∙ tabulated f d n k l)
    (eq-or-lt_of_le (le_of_suc-le-suc h))

pub filled_at : {A : Type 0} (f : ℕ → A) (d : A) (n : ℕ) (rest : List A) (k : ℕ) → k < n → get_or (tabulate n f ++ rest) k d ≡ f k
filled_at f d n rest k h =
    get_or-append (tabulate n f) rest d k (subst (λ (m : ℕ). k < m) (sym (length_tabulate f d 0 n)) h) ∙ tabulated f d n k h

pub tabulate_same : {A : Type 0} (f g : ℕ → A) (n : ℕ) → ((k : ℕ) → k < n → f k ≡ g k) → tabulate n f ≡ tabulate n g
unfolding tabulate
tabulate_same f g zero h = refl
tabulate_same f g (suc n) h =
    let t = tabulate_same f g n (λ k l. h k (omega arith)) in
    let e = h n (omega arith) in
    λ i. t i ++ (e i ∷ [])

-- each place worked from its element is the list worked
pub worked_all : {A B : Type 0} (f : A → B) (xs : List A) (d : A) (n : ℕ) (none : B) → length xs ≡ n
    → tabulate n (λ i. f (get_or xs i d)) ++ replicate (n - n) none ≡ map f xs
worked_all f xs d n none long =
    let made : length (tabulate n (λ i. f (get_or xs i d)) ++ replicate (n - n) none) ≡ n =
    length-append (tabulate n (λ i. f (get_or xs i d))) (replicate (n - n) none)
    ∙ omega (arith, length_tabulate (λ i. f (get_or xs i d)) (f d) 0 n, length-replicate (n - n) none) in
    ext_get_or (f d) _ _ (made ∙ sym (length-map xs f ∙ long))
    (λ i h. filled_at (λ i. f (get_or xs i d)) (f d) n (replicate (n - n) none) i (omega arith) ∙ sym (get_or-map f xs i d))

one_more : {A : Type 0} (a : A) (n : ℕ) → replicate n a ++ (a ∷ []) ≡ a ∷ replicate n a
one_more a zero = refl
one_more a (suc n) = ap (λ xs. a ∷ xs) (one_more a n)

-- one element throughout
pub all_alike : {A : Type 0} (a : A) (n : ℕ) → replicate n a ≡ tabulate n (λ k. a)
unfolding tabulate
all_alike a zero = refl
all_alike a (suc n) = sym (one_more a n) ∙ ap (λ xs. xs ++ (a ∷ [])) (all_alike a n)
