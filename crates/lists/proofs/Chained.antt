-- Lists chained from parts: f 0 ++ f 1 ++ .. by index, in one loop or in two. Assumes nothing.
use mathlib.Core.Path.{◌≡◌, refl, sym, ap, ◌∙◌}
use mathlib.Core.List.{List, ◌++◌, append_assoc, append-nil}
use Prim.Native.Nat.{ℕ, zero, suc, ◌+◌, ◌-◌, ◌*◌, ◌/◌, ◌%◌, ◌<◌}
use native.Mathlib.Nat.{add-zero, add-suc, add_comm, zero-mul, suc-mul, div-eq_of_lt, mod-eq_of_lt, mul-add-div_right, add-mul-mod_self_right}
use native.Mathlib.Numerals.{add-one}
use native.Mathlib.Omega.{arith}
use lib.ListN.{length, length-append}
use Rattle.lists.specs.Lists.{chained}

module _ {A : Type 0} where
  pub chained_same : (f g : ℕ → List A) (n : ℕ) → ((k : ℕ) → k < n → f k ≡ g k) → chained f n ≡ chained g n
  unfolding chained
  chained_same f g zero h = refl
  chained_same f g (suc n) h =
      ap (λ (l : List A). l ++ f n) (chained_same f g n (λ k l. h k (omega arith)))
      ∙ ap (λ (l : List A). chained g n ++ l) (h n (omega arith))

  -- one part more
  pub chained_more : (f : ℕ → List A) (k : ℕ) → chained f (k + 1) ≡ chained f k ++ f k
  unfolding chained
  chained_more f k = rw add-one refl

  chained_add : (f : ℕ → List A) (a b : ℕ) → chained f (a + b) ≡ chained f a ++ chained (λ k. f (a + k)) b
  unfolding chained
  chained_add f a zero = rw add-zero (sym (append-nil (chained f a)))
  chained_add f a (suc b) =
      rw add-suc
      (ap (λ (l : List A). l ++ f (a + b)) (chained_add f a b)
      ∙ append_assoc (chained f a) (chained (λ k. f (a + k)) b) (f (a + b)))

  -- part k with what stands before and after it
  pub chained_split : (f : ℕ → List A) (n k : ℕ) → k < n → chained f n ≡ chained f k ++ (f k ++ chained (λ j. f (k + 1 + j)) (n - (k + 1)))
  chained_split f n k h =
      let e : n ≡ k + 1 + (n - (k + 1)) = omega arith in
      ap (chained f) e
      ∙ chained_add f (k + 1) (n - (k + 1))
      ∙ ap (λ (l : List A). l ++ chained (λ j. f (k + 1 + j)) (n - (k + 1))) (chained_more f k)
      ∙ append_assoc (chained f k) (f k) (chained (λ j. f (k + 1 + j)) (n - (k + 1)))

  pub chained_length : (f : ℕ → List A) (n m : ℕ) → ((k : ℕ) → length (f k) ≡ m) → length (chained f n) ≡ n * m
  unfolding chained
  chained_length f zero m h = omega arith
  chained_length f (suc n) m h = length-append (chained f n) (f n) ∙ omega (arith, chained_length f n m h, h n)

  -- two loops, the inner one of m, as one
  pub flat : (m : ℕ) → 0 < m → (f : ℕ → ℕ → List A) (n : ℕ) → chained (λ i. chained (f i) m) n ≡ chained (λ q. f (q / m) (q % m)) (n * m)
  unfolding chained
  flat m some f zero = ap (chained (λ q. f (q / m) (q % m))) (sym (zero-mul m))
  flat m some f (suc n) =
      let same : chained (f n) m ≡ chained (λ k. f ((n * m + k) / m) ((n * m + k) % m)) m =
      chained_same (f n) (λ k. f ((n * m + k) / m) ((n * m + k) % m)) m
      (λ k h.
      let d : n ≡ (n * m + k) / m = sym (mul-add-div_right some n k ∙ ap (λ (x : ℕ). n + x) (div-eq_of_lt h) ∙ add-zero n) in
      let r : k ≡ (n * m + k) % m = sym (ap (λ (x : ℕ). x % m) (add_comm (n * m) k) ∙ add-mul-mod_self_right k n m ∙ mod-eq_of_lt h) in
      ap (λ (i : ℕ). f i k) d ∙ ap (λ (p : ℕ). f ((n * m + k) / m) p) r)
      in
      ap (λ (l : List A). l ++ chained (f n) m) (flat m some f n)
      ∙ ap (λ (l : List A). chained (λ q. f (q / m) (q % m)) (n * m) ++ l) same
      ∙ sym (chained_add (λ q. f (q / m) (q % m)) (n * m) m)
      ∙ ap (chained (λ q. f (q / m) (q % m))) (sym (suc-mul n m))
