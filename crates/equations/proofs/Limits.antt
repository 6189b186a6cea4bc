-- Limits written as whole numbers: an end is at most the entry of n where its value is at most n. Assumes nothing.
use mathlib.Core.Logic.{◌↔◌}
use Prim.Native.Nat.{ℕ, ◌≤◌}
use native.Mathlib.Nat.{add-zero}
use mathlib.Core.Path.{◌≡◌, subst}
use mathlib.Core.Bool.{true}
use native.Mathlib.Omega.{arith}
use lib.Dec.{lit<, lit≤}
use lib.IntN.{pos}
use Rattle.pair.specs.declared.Number.{Number}
use Rattle.pair.specs.declared.Pair.{Pair}
use Rattle.pair.specs.Fraction.{Fraction, Proper, ◌≤ᶠ◌}
use Rattle.pair.specs.Number.{is_number, value, place, depth}
use Rattle.pair.specs.Calls.{is, entry}
use Rattle.pair.specs.Promises.{scaled}
use Rattle.pair.proofs.Promises.{through, value_proper, written_number, scaled_proper, entry_exact}
use Rattle.equations.specs.Ranges.{sixty_four}

-- n as a fraction
abbrev pub whole : ℕ → Fraction
whole n = record { num = n; den = 1 }

place_zero : place (pos 0) ≡ depth
unfolding place
place_zero = add-zero depth

scaled_whole : (n : ℕ) → (scaled n (pos 0) ≤ᶠ whole n) × (whole n ≤ᶠ scaled n (pos 0))
unfolding scaled
scaled_whole n = (record { across = rw place_zero (omega arith) }, record { across = rw place_zero (omega arith) })

pub at_most_whole : (n : ℕ) (r : Pair) → n ≤ 999999999 → entry n (pos 0) ≡ is r → (w : Number) → (value w ≤ᶠ value r.high) ↔ (value w ≤ᶠ whole n)
at_most_whole n r few h w =
    let a = entry_exact n (pos 0) r few h in
    let p : Proper (scaled n (pos 0)) = scaled_proper n (pos 0) in
    let e : value r.high ≤ᶠ scaled n (pos 0) = subst (λ (v : Number). value v ≤ᶠ scaled n (pos 0)) a.0 a.1.low in (
      λ l. through p (through (value_proper r.high) l e) (scaled_whole n).0,
      λ l. through p (through (record { above_zero = lit< tt }) l (scaled_whole n).1) a.1.high,
    )

pub at_least_whole : (n : ℕ) (r : Pair) → n ≤ 999999999 → entry n (pos 0) ≡ is r → whole n ≤ᶠ value r.high
at_least_whole n r few h = through (scaled_proper n (pos 0)) (scaled_whole n).1 (entry_exact n (pos 0) r few h).1.high

pub sixty_four_number : is_number sixty_four ≡ true
unfolding sixty_four
sixty_four_number = written_number 64 (pos 0) (lit≤ tt) (lit≤ tt)
