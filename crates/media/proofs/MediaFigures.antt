-- Document 02's P5 at its bound: the loss is slow at 64 and fast at the next working number above it. Assumes nothing.
use mathlib.Core.Path.{◌≡◌, refl, ◌∙◌, ap, subst}
use mathlib.Core.Bool.{Bool, true, false}
use Prim.Native.Nat.{ℕ, ◌*◌, ◌^◌, ◌+◌, ◌≤◌, ◌<◌}
use native.Mathlib.Nat.{one-le-pow, le_of_mul-le-mul_right, add-zero}
use native.Mathlib.Omega.{arith}
use lib.Dec.{lit<, lit≤}
use lib.Pow.{pow-add}
use lib.IntN.{pos, negsuc}
use Rattle.pair.specs.declared.Number.{Number}
use Rattle.pair.specs.Fraction.{◌≤ᶠ◌}
use Rattle.pair.specs.Number.{at_most, value, place, depth}
use Rattle.pair.specs.Calls.{is, compared, written}
use Rattle.pair.specs.Promises.{scaled}
use Rattle.pair.proofs.Promises.{through, value_proper, equal_below, equal_turned, compared_itself, compared_answered, compared_right, written_number, written_value}
use Rattle.equations.specs.Page.{Slow, Fast}
use Rattle.equations.specs.Ranges.{sixty_four}
use Rattle.equations.specs.Readings.{pace_if, pace_of}
use Rattle.equations.proofs.Limits.{sixty_four_number}

-- 64.0000001
abbrev next : Number
next = written 640000001 (negsuc 6)

not_at_most : value next ≤ᶠ value sixty_four → ⊥
unfolding sixty_four scaled
not_at_most h =
    let a : scaled 640000001 (negsuc 6) ≤ᶠ scaled 64 (pos 0) =
    through (value_proper next) (equal_below (equal_turned (written_value 640000001 (negsuc 6) (lit≤ tt) (lit≤ tt))))
    (through (value_proper (written 64 (pos 0))) h (equal_below (written_value 64 (pos 0) (lit≤ tt) (lit≤ tt)))) in
    less (10 ^ place (negsuc 6)) (10 ^ depth) (one-le-pow (place (negsuc 6)) 10 (lit< tt)) (one-le-pow depth 10 (lit< tt)) tenths
    (subst (λ (p : ℕ). 640000001 * 10 ^ place (negsuc 6) * 10 ^ depth ≤ 64 * 10 ^ p * 10 ^ depth) whole a.across)
  where
    whole : place (pos 0) ≡ depth
    whole = unfold place in add-zero depth

    seven : depth ≡ place (negsuc 6) + 7
    seven = unfold place depth in refl

    tenths : 10 ^ depth ≡ 10 ^ place (negsuc 6) * 10000000
    tenths = ap (λ (n : ℕ). 10 ^ n) seven ∙ pow-add 10 (place (negsuc 6)) 7

    less : (P D : ℕ) → 0 < P → 0 < D → D ≡ P * 10000000 → 640000001 * P * D ≤ 64 * D * D → ⊥
    less P D z y e h = absurd (omega (arith, z, e, le_of_mul-le-mul_right {m = 640000001 * P} {n = 64 * D} {k = D} h y))

above_64 : compared next sixty_four ≡ is false
above_64 = go (at_most next sixty_four) (compared_answered next sixty_four (written_number 640000001 (negsuc 6) (lit≤ tt) (lit≤ tt)) sixty_four_number)
  where
    go : (t : Bool) → compared next sixty_four ≡ is t → compared next sixty_four ≡ is false
    go true e = absurd (not_at_most ((compared_right next sixty_four true e).0 refl))
    go false e = e

-- the high end decides, whatever the low end is
pub pace_at_64 : (low : Number) → (pace_of (is (record { low = low; high = sixty_four })) ≡ Slow) × (pace_of (is (record { low = low; high = next })) ≡ Fast)
unfolding pace_of pace_if
pace_at_64 low = (ap pace_if (compared_itself sixty_four sixty_four_number), ap pace_if above_64)
