-- Arrays that are worked element by element or made place by place, and a test of each element. Assumes nothing.
use mathlib.Core.Path.{◌≡◌, refl, sym, ap, ◌∙◌}
use mathlib.Core.Bool.{Bool, ◌||◌}
use mathlib.Core.List.{List, map}
use Prim.Native.Nat.{ℕ, zero, suc, ◌≤◌, ◌<◌}
use native.Mathlib.Numerals.{add-one}
use native.Mathlib.Omega.{arith}
use lib.ListN.{length, get_or, take, length-map, get_or-map}
use lib.Seq.{ext_get_or, take_all}
use Rattle.std.specs.List.{list_any}
use Rattle.std.proofs.lemmas.List.Folds.{list_any_more}
use Rattle.lists.specs.Lists.{tabulate, any_of}
use Rattle.lists.proofs.Tabulated.{length_tabulate, tabulated}

-- each element worked
pub mapped : {A B : Type 0} (f : A → B) (xs : List A) (ys : List B) (d : A) → length ys ≡ length xs
    → ((i : ℕ) → i < length xs → get_or ys i (f d) ≡ f (get_or xs i d)) → ys ≡ map f xs
mapped f xs ys d long at = ext_get_or (f d) ys (map f xs) (long ∙ sym (length-map xs f)) (λ i h. at i (omega (arith, long)) ∙ sym (get_or-map f xs i d))

-- each place made by its number
pub made : {B : Type 0} (f : ℕ → B) (n : ℕ) (ys : List B) → length ys ≡ n → ((i : ℕ) (e : B) → i < n → get_or ys i e ≡ f i) → ys ≡ tabulate n f
made f n ys long at = ext_get_or (f 0) ys (tabulate n f) (long ∙ sym (length_tabulate f (f 0) 0 n)) (λ i h. let l : i < n = omega (arith, long) in at i (f 0) l ∙ sym (tabulated f (f 0) n i l))

-- a test of the first n elements
pub any_first : {A : Type 0} (test : A → Bool) (xs : List A) (d : A) (n : ℕ) → n ≤ length xs → list_any test (take n xs) ≡ any_of (λ k. test (get_or xs k d)) n
unfolding any_of
any_first test xs d zero h = refl
any_first test xs d (suc n) h =
    let l : n < length xs = omega arith in
    ap (λ (m : ℕ). list_any test (take m xs)) (sym (add-one n))
    ∙ list_any_more test xs n d l
    ∙ ap (λ (b : Bool). b || test (get_or xs n d)) (any_first test xs d n (omega arith))

pub any_each : {A : Type 0} (test : A → Bool) (xs : List A) (d : A) (n : ℕ) → length xs ≡ n → list_any test xs ≡ any_of (λ k. test (get_or xs k d)) n
any_each test xs d n long =
    let past : length xs ≤ n = omega arith in
    ap (list_any test) (sym (take_all n xs past)) ∙ any_first test xs d n (omega arith)
