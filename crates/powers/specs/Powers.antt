-- Powers of ten in 64 bits. Assumes nothing.
use Rattle.std.specs.Prelude.{ℕ, ◌^◌, min, suc, ℤ, pos, negsuc}

-- 10^n; above 19 the largest power of ten that 64 bits hold, 10^19
unfoldable pub ten_to : ℕ → ℕ
ten_to n = 10 ^ min n 19

-- A value is digits × 10 ^ power. It is compared exactly: a power below 0 goes to the other side.
unfoldable pub above : ℤ → ℕ
above (pos n) = n
above (negsuc n) = 0

unfoldable pub below : ℤ → ℕ
below (pos n) = 0
below (negsuc n) = suc n
