-- Numbers of 64 bits that fit a field of 32, and back. Assumes nothing.
use mathlib.Core.Path.{◌≡◌, refl, sym, ap, ◌∙◌, subst}
use mathlib.Core.Bool.{Bool, true, false, ◌&&◌, true≢false}
use mathlib.Core.List.{List}
use Prim.Native.Nat.{ℕ, ◌<◌, ◌^◌}
use native.Mathlib.Omega.{arith}
use borrow.Author.Tests.{leb-true}
use lib.Dec.{T, leb}
use lib.IntN.{ℤ, pos, negsuc, nat_abs}
use lib.Signed.{mag, non_neg}
use mir.Syntax.{w32, w64}
use mir.Val.{Fits, SFits, to_z, of_z}
use mir.Facts.{to_z-of_z, sfits_widen}
use Rattle.pair.specs.declared.Number.{Number}
use Rattle.pair.specs.Calls.{Outcome}
use Rattle.zilmorga.specs.Numbers.{is_between, entry_at, number_of}

both_hold : (a b : Bool) → (a && b) ≡ true → (a ≡ true) × (b ≡ true)
both_hold true b t = (refl, t)
both_hold false b t = absurd (true≢false (sym t))

pub significand_fits : (m : ℤ) → is_between (pos 0) m (pos 4294967295) ≡ true → T (non_neg m) × Fits w32 (nat_abs m)
unfolding is_between
significand_fits (pos n) t = (tt, record { fits = omega (arith, leb-true n 4294967295 (both_hold (leb 0 n) (leb n 4294967295) t).1) })
significand_fits (negsuc n) t = absurd (true≢false (sym t))

pub exponent_fits : (e : ℤ) → is_between (negsuc 2147483647) e (pos 2147483647) ≡ true → SFits w32 e
unfolding is_between
exponent_fits (pos n) t = record { sfits = omega (arith, leb-true n 2147483647 t) }
exponent_fits (negsuc n) t = record { sfits = omega (arith, leb-true n 2147483647 (both_hold (leb n 2147483647) true t).0) }

-- an exponent in 64 bits is the same
pub widens : {e : ℤ} → SFits w32 e → SFits w64 (to_z w32 (of_z w32 e))
widens {e} fits = subst (SFits w64) (sym (to_z-of_z fits)) (sfits_widen tt fits)

pub widened : {e : ℤ} → SFits w32 e → to_z w64 (of_z w64 (to_z w32 (of_z w32 e))) ≡ e
widened {e} fits = ap (λ (y : ℤ). to_z w64 (of_z w64 y)) (to_z-of_z fits) ∙ to_z-of_z {w = w64} (sfits_widen tt fits)

-- two numbers of a list, as a call is passed them
pub passed : (list : List ℤ) (i j : ℕ) {x : Outcome Number} → mag (entry_at list i) < 2 ^ 63 → mag (entry_at list j) < 2 ^ 63 → x ≡ number_of (to_z w64 (of_z w64 (entry_at list i))) (to_z w64 (of_z w64 (entry_at list j))) → x ≡ number_of (entry_at list i) (entry_at list j)
passed list i j fi fj told =
    told ∙ rw (to_z-of_z {w = w64} {z = entry_at list i} (record { sfits = fi }), to_z-of_z {w = w64} {z = entry_at list j} (record { sfits = fj })) refl
