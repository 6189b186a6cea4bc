-- A working number counted in units of a power of ten. Assumes nothing.
use mathlib.Core.Path.{◌≡◌, sym, ◌∙◌, ap, subst}
use mathlib.Core.Bool.{Bool}
use Prim.Native.Nat.{ℕ, ◌+◌, ◌*◌, ◌^◌, ◌≤◌, ◌<◌}
use native.Mathlib.Nat.{zero-div, zero-mod, mul-le-mul, lt_of_le_of_lt}
use native.Mathlib.Omega.{arith}
use lib.Dec.{lit<, leb, ltb}
use lib.IntN.{ℤ, pos, ◌-ℤ◌}
use lib.Signed.{mag, le_z}
use borrow.Author.Tests.{lt-ltb, le-ltb, leb-true, leb-false}
use Rattle.pair.specs.declared.Number.{Number}
use Rattle.pair.specs.Number.{depth, place, lesser, rise, units_at}
use Rattle.pair.specs.Rounding.{divided, units_end}
use Rattle.pair.proofs.Alignment.{Small, rise_of, rise_none, lesser_first, lesser_second, units_own, units_none, nine_small}
use Rattle.pair.proofs.Dividing.{divided_even, divided_one, divided_most}
use Rattle.pair.proofs.Exponents.{by_cases, mag_minus, place_minus, le_z_place}
use Rattle.pair.proofs.Numbers.{Nine}
use Rattle.pair.proofs.Powers.{ten_above, ten_rises}

-- 0 counts no unit
pub count_zero : (up : Bool) (w : Number) (u : ℤ) → w.significand ≡ 0 → 0 ≡ units_end up w u
unfolding units_end
count_zero up w u h =
    let s = lesser w.exponent u in
    sym
    (ap (λ (n : ℕ). divided up n (10 ^ rise s u)) (units_none s w h)
    ∙ divided_even 0 (10 ^ rise s u) up (zero-mod (10 ^ rise s u))
    ∙ zero-div (10 ^ rise s u))

module _ (up : Bool) (w : Number) (u : ℤ) (n : Nine w) (small : Small u) where
  -- a unit above the last figure divides
  pub count_above : place w.exponent ≤ place u → divided up w.significand (10 ^ rise w.exponent u) ≡ units_end up w u
  unfolding units_end
  count_above h =
      sym (rw (lesser_first (nine_small n) small h) (ap (λ (x : ℕ). divided up x (10 ^ rise w.exponent u)) (units_own w (nine_small n))))

  -- a unit at or below it multiplies
  pub count_below : place u ≤ place w.exponent → w.significand * 10 ^ rise u w.exponent ≡ units_end up w u
  unfolding units_end units_at
  count_below h =
      sym (rw (lesser_second (nine_small n) small h, rise_none small) (divided_one up (w.significand * 10 ^ rise u w.exponent)))

  -- nineteen figures are ten places at most
  pub count_fits : place w.exponent ≤ place u + 10 → units_end up w u < 10 ^ 19
  count_fits h =
      by_cases (leb (place u) (place w.exponent))
      (λ t.
      let l : place u ≤ place w.exponent = leb-true (place u) (place w.exponent) t in
      subst (λ (x : ℕ). x < 10 ^ 19) (count_below l)
      (lt_of_le_of_lt (mul-le-mul {m₂ = 10 ^ 10} n.most (ten_rises {j = 10} (omega (arith, rise_of small (nine_small n) l)))) (lit< tt)))
      (λ t.
      let l : place w.exponent < place u = leb-false (place u) (place w.exponent) t in
      subst (λ (x : ℕ). x < 10 ^ 19) (count_above (omega arith))
      (lt_of_le_of_lt
      (divided_most up w.significand (10 ^ rise w.exponent u) 1000000000 (ten_above (rise w.exponent u)) (omega (arith, n.most, ten_above (rise w.exponent u))))
      (lit< tt)))

  pub count_long : place u + 10 < place w.exponent → 10 ^ 19 ≤ units_end up w u
  count_long h =
      subst (λ (x : ℕ). 10 ^ 19 ≤ x) (count_below (omega arith))
      (mul-le-mul {n₁ = 100000000} {m₁ = 10 ^ 11} n.least (ten_rises {i = 11} (omega (arith, rise_of small (nine_small n) (omega arith)))))

  -- the test on the exponents decides it
  pub count_test : le_z (w.exponent -ℤ u) (pos 10) ≡ ltb (units_end up w u) (10 ^ 19)
  unfolding depth place
  count_test =
      let z = w.exponent -ℤ u in
      let m : mag z < depth = omega (arith, mag_minus w.exponent u, n.reach, small.small) in
      let d : place z + place u ≡ place w.exponent + depth = place_minus w.exponent u (omega (arith, n.reach, small.small)) in
      let o : le_z z (pos 10) ≡ leb (place z) (place (pos 10)) = le_z_place z (pos 10) m (lit< tt) in
      by_cases (leb (place z) (place (pos 10)))
      (λ e. o ∙ e ∙ sym (lt-ltb (units_end up w u) (10 ^ 19) (count_fits (omega (arith, leb-true (place z) (place (pos 10)) e)))))
      (λ e. o ∙ e ∙ sym (le-ltb (units_end up w u) (10 ^ 19) (count_long (omega (arith, leb-false (place z) (place (pos 10)) e)))))
