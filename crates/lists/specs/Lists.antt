-- Lists made by index, and texts put into a list. Assumes nothing.
use Rattle.std.specs.Prelude.{ℕ, zero, suc, ◌+◌, Bool, false, ◌||◌, List, [], ◌∷◌, ◌++◌, length, take, drop}

-- f 0, f 1, .., f (n - 1)
unfoldable pub tabulate : {A : Type 0} → ℕ → (ℕ → A) → List A
tabulate zero f = []
tabulate (suc n) f = tabulate n f ++ (f n ∷ [])

-- f 0 ++ f 1 ++ .. ++ f (n − 1)
unfoldable pub chained : {A : Type 0} → (ℕ → List A) → ℕ → List A
chained f zero = []
chained f (suc n) = chained f n ++ f n

-- f 0 or f 1 .. or f (n − 1)
unfoldable pub any_of : (ℕ → Bool) → ℕ → Bool
any_of f zero = false
any_of f (suc n) = any_of f n || f n

-- a list with a text in the place of as many elements from at
unfoldable pub placed : List ℕ → ℕ → List ℕ → List ℕ
placed list at text = take at list ++ text ++ drop (at + length text) list
