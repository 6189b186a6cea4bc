-- The number that digits spell only grows with each of them: past 64 bits it is none. Assumes nothing.
use Rattle.std.proofs.Common.{◌≡◌, ℕ, ◌+◌, ◌-◌, ◌*◌, ◌^◌, ◌<◌, ◌≤◌, List, [], ◌∷◌, length, get_or, drop, None, refl, add-one, arith, drop-cons, le-ltb}
use Rattle.trials.specs.Text.{spelled, number_of}

grows : (s : List ℕ) (n : ℕ) → n ≤ spelled s n
unfolding spelled
grows [] n = omega arith
grows (b ∷ s) n = omega (arith, grows s (n * 10 + (b - 48)))

module _ (s : List ℕ) (i n : ℕ) where
  one_more : i < length s → spelled (drop i s) n ≡ spelled (drop (i + 1) s) (n * 10 + (get_or s i 0 - 48))
  unfolding spelled
  one_more h = rw (drop-cons s i 0, add-one) refl

  pub too_large : (at : ℕ) → i < length s → spelled s 0 ≡ spelled (drop i s) n → 2 ^ 64 ≤ n * 10 + (get_or s i 0 - 48) → None ≡ number_of s at
  unfolding number_of
  too_large at h e f =
      let g : 2 ^ 64 ≤ spelled s 0 = omega (arith, e, one_more h, grows (drop (i + 1) s) (n * 10 + (get_or s i 0 - 48))) in
      rw (le-ltb (spelled s 0) (2 ^ 64)) refl
