-- Numbers of up to 2^31 with a sign, as they are held in 32 and in 64 bits. Assumes nothing.
use Rattle.std.proofs.Common.{◌≡◌, ℕ, zero, suc, ◌≤◌, ℤ, pos, ◌-ℤ◌, arith, to_z-of_z, w32, w64, SFits, to_z, of_z, lt-ltb}

pub fits_32 : (n : ℕ) → n ≤ 2147483648 → SFits w32 (pos 0 -ℤ pos n)
fits_32 zero h = record { sfits = omega arith }
fits_32 (suc n) h = record { sfits = rw (lt-ltb 0 (suc n) (omega arith)) (omega arith) }

pub fits_64 : (n : ℕ) → n ≤ 2147483648 → SFits w64 (pos 0 -ℤ pos n)
fits_64 zero h = record { sfits = omega arith }
fits_64 (suc n) h = record { sfits = rw (lt-ltb 0 (suc n) (omega arith)) (omega arith) }

module _ (n : ℕ) (z : ℤ) where
  pub low_value : n ≤ 2147483648 → z ≡ pos 0 -ℤ pos n → to_z w32 (of_z w32 z) ≡ pos 0 -ℤ pos n
  low_value h e = rw e (to_z-of_z (fits_32 n h))

  pub high_value : n ≤ 2147483647 → z ≡ pos n → to_z w32 (of_z w32 z) ≡ pos n
  high_value h e = rw e (to_z-of_z {w = w32} (record { sfits = omega arith }))
