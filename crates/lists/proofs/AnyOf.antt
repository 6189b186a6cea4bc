-- Whether one of several holds: one that holds is told, and none is told exactly where none holds. Assumes nothing.
use mathlib.Core.Path.{◌≡◌, refl, sym, ◌∙◌, subst}
use mathlib.Core.Bool.{Bool, true, false, or-true, false≢true}
use mathlib.Core.Logic.{◌⊎◌, ⊎_elim}
use Prim.Native.Nat.{ℕ, zero, suc, ◌+◌, ◌≤◌, ◌<◌}
use native.Mathlib.Nat.{eq-or-lt_of_le}
use native.Mathlib.Numerals.{add-one}
use native.Mathlib.Omega.{arith}
use Rattle.lists.specs.Lists.{any_of}

pub any_of_lem : (f : ℕ → Bool) (j n : ℕ) → f j ≡ true → j < n → any_of f n ≡ true
unfolding any_of
any_of_lem f j zero h l = absurd (omega arith)
any_of_lem f j (suc n) h l = ⊎_elim (λ e. rw (subst (λ (k : ℕ). f k ≡ true) e h) (or-true (any_of f n))) (λ m. rw (any_of_lem f j n h m) refl) (order (omega arith))
  where
    order : j ≤ n → (j ≡ n) ⊎ (j < n)
    order k = eq-or-lt_of_le k

pub none_of : (f : ℕ → Bool) (n : ℕ) → any_of f n ≡ false → (j : ℕ) → j < n → f j ≡ false
none_of f n h j l = go (f j) refl
  where
    go : (t : Bool) → f j ≡ t → f j ≡ false
    go true e = absurd (false≢true (sym h ∙ any_of_lem f j n e l))
    go false e = e

pub none_any : (f : ℕ → Bool) (n : ℕ) → ((j : ℕ) → j < n → f j ≡ false) → any_of f n ≡ false
unfolding any_of
none_any f zero h = refl
none_any f (suc n) h = rw (none_any f n (λ j l. h j (omega arith)), h n (omega arith)) refl

-- one more that does not hold
pub none_more : (f : ℕ → Bool) (n : ℕ) → any_of f n ≡ false → f n ≡ false → any_of f (n + 1) ≡ false
unfolding any_of
none_more f n h k = rw (add-one n, h, k) refl
