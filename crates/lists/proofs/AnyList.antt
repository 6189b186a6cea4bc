-- Whether one of a list's elements is such at its place, asked element by element, is `any_of` by place. Assumes nothing.
use mathlib.Core.Path.{◌≡◌, refl, ap, ◌∙◌}
use mathlib.Core.Bool.{Bool, true, false, ◌||◌, or-false}
use mathlib.Core.List.{List, [], ◌∷◌}
use Prim.Native.Nat.{ℕ, zero, suc, ◌+◌}
use native.Mathlib.Nat.{add-zero}
use native.Mathlib.Omega.{arith}
use lib.ListN.{length, get_or}
use Rattle.std.specs.List.{list_any, enumerate_from}
use Rattle.lists.specs.Lists.{any_of}

any_same : (f g : ℕ → Bool) (n : ℕ) → ((k : ℕ) → f k ≡ g k) → any_of f n ≡ any_of g n
unfolding any_of
any_same f g zero h = refl
any_same f g (suc n) h = rw (any_same f g n h, h n) refl

-- the first of several stands in front
any_front : (f : ℕ → Bool) (n : ℕ) → any_of f (suc n) ≡ (f 0 || any_of (λ k. f (suc k)) n)
unfolding any_of
any_front f zero = rw or-false refl
any_front f (suc n) = ap (λ (b : Bool). b || f (suc n)) (any_front f n) ∙ by (f 0) _ _
  where
    by : (a b c : Bool) → ((a || b) || c) ≡ (a || (b || c))
    by true b c = refl
    by false b c = refl

module _ {A : Type 0} (d : A) where
  from_place : (f : ℕ → A → Bool) (n : ℕ) (xs : List A) → list_any (λ p. f p.0 p.1) (enumerate_from n xs) ≡ any_of (λ k. f (n + k) (get_or xs k d)) (length xs)
  unfolding any_of
  from_place f n [] = refl
  from_place f n (x ∷ xs) =
      let rest = from_place f (n + 1) xs ∙ any_same (λ k. f (n + 1 + k) (get_or xs k d)) (λ k. f (n + suc k) (get_or xs k d)) (length xs) (λ k. ap (λ (i : ℕ). f i (get_or xs k d)) (omega arith)) in
      rw rest (rw (any_front (λ k. f (n + k) (get_or (x ∷ xs) k d)) (length xs)) (rw (add-zero n) refl))

  pub any_enumerated : (f : ℕ → A → Bool) (xs : List A) → list_any (λ p. f p.0 p.1) (enumerate_from 0 xs) ≡ any_of (λ k. f k (get_or xs k d)) (length xs)
  any_enumerated f xs = from_place f 0 xs ∙ any_same (λ k. f (0 + k) (get_or xs k d)) (λ k. f k (get_or xs k d)) (length xs) (λ k. ap (λ (i : ℕ). f i (get_or xs k d)) (omega arith))
