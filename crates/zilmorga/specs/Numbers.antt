-- How a caller writes a working number, as significand and exponent, and a pair, as its low and its high end: as numbers of 64 bits.
use Rattle.std.specs.Prelude.{ℕ, Bool, ◌&&◌, List, [], ◌∷◌, ℤ, pos, negsuc, nat_abs, get_or}
use Rattle.std.specs.Int.Signed.{le_z}
use Rattle.pair.specs.declared.Number.{Number}
use Rattle.pair.specs.declared.Pair.{Pair}
use Rattle.pair.specs.Calls.{Outcome, is, refused, provided, compared}

unfoldable pub is_between : ℤ → ℤ → ℤ → Bool
is_between least z most = le_z least z && le_z z most

-- a significand has 32 bits, and an exponent 32 with its sign
unfoldable pub number_of : ℤ → ℤ → Outcome Number
number_of m e =
    provided (is_between (pos 0) m (pos 4294967295) && is_between (negsuc 2147483647) e (pos 2147483647))
    (is (record { significand = nat_abs m; exponent = e }))

-- what stands at a place of a list
abbrev pub entry_at : List ℤ → ℕ → ℤ
entry_at list i = get_or list i (pos 0)

-- a call on what an earlier one told: a refusal is carried along
unfoldable pub and_then : {A B : Type 0} → Outcome A → (A → Outcome B) → Outcome B
and_then (is x) f = f x
and_then (refused n) f = refused n

unfoldable pub pair_from : List ℤ → Outcome Pair
pair_from list =
    and_then (number_of (entry_at list 0) (entry_at list 1))
    (λ low. and_then (number_of (entry_at list 2) (entry_at list 3)) (λ high. is (record { low = low; high = high })))

-- whether the first is at most the second
unfoldable pub compared_if : Outcome Number → Outcome Number → Outcome Bool
compared_if x y = and_then x (λ a. and_then y (λ b. compared a b))

unfoldable pub numbers_of : Pair → List ℤ
numbers_of p = pos p.low.significand ∷ p.low.exponent ∷ pos p.high.significand ∷ p.high.exponent ∷ []
