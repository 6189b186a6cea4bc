-- Document 01's checked figures of the arithmetic, marked ● there, and those of printed numbers with more than nine digits: each as it is
-- worked and as it is printed.
use Rattle.std.specs.Prelude.{◌≡◌, List, [], ◌∷◌, ℕ, ℤ, pos, negsuc}
use Rattle.pair.specs.declared.Pair.{Pair}
use Rattle.pair.specs.Calls.{Outcome, is, after, after_one, entry, product, quotient, one_minus, one_minus_entry}

pub record Figure : Type 0 where
  pub worked : Outcome Pair
  pub printed : Outcome Pair

-- every figure of a list is worked as printed
abbrev pub Each : List Figure → Type 0
Each [] = Unit {0}
Each (f ∷ fs) = (f.worked ≡ f.printed) × Each fs

infixl 70 ◌⊗◌
unfoldable pub ◌⊗◌ : Outcome Pair → Outcome Pair → Outcome Pair
x ⊗ y = after product x y

infixl 70 ◌⊘◌
unfoldable pub ◌⊘◌ : Outcome Pair → Outcome Pair → Outcome Pair
x ⊘ y = after quotient x y

-- a whole number, and the ends of a result with their common exponent
unfoldable pub whole : ℕ → Outcome Pair
whole n = entry n (pos 0)

unfoldable pub both_ends : ℕ → ℕ → ℤ → Outcome Pair
both_ends low high e = is (record { low = record { significand = low; exponent = e }; high = record { significand = high; exponent = e } })

unfoldable pub figures : List Figure
figures =
    record { worked = whole 2 ⊘ whole 3; printed = both_ends 666666666 666666667 (negsuc 8) }
    ∷ record {
      worked = after_one one_minus (entry 1 (negsuc 19));
      printed = is (record { low = record { significand = 999999999; exponent = negsuc 8 }; high = record { significand = 100000000; exponent = negsuc 7 } });
    }
    ∷ record { worked = whole 365 ⊗ entry 45 (negsuc 0); printed = both_ends 164250000 164250000 (negsuc 4) }
    ∷ record {
      worked = whole 25 ⊗ whole 1 ⊗ entry 61 (negsuc 1) ⊗ whole 1 ⊗ whole 151 ⊗ whole 75 ⊗ entry 1 (negsuc 5) ⊘ (entry 633 (negsuc 0) ⊗ whole 27375);
      printed = both_ends 996667315 996667316 (negsuc 15);
    }
    -- 999999999.5, whose nine figures carry, and 1 − 0.99999999999
    ∷ record {
      worked = entry 9999999995 (negsuc 0);
      printed = is (record { low = record { significand = 999999999; exponent = pos 0 }; high = record { significand = 100000000; exponent = pos 1 } });
    }
    ∷ record { worked = one_minus_entry 99999999999 (negsuc 10); printed = both_ends 100000000 100000000 (negsuc 18) }
    ∷ []
