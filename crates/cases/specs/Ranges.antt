-- The range of a slot's value (document 01, "Deck"): 0, or 1E-20 to the largest that its rule allows; and of a site's year, 2005 or 2009
-- (document 02, P6).
-- Assumes nothing.
use Rattle.std.specs.Prelude.{ℕ, ◌+◌, ◌*◌, ◌^◌, Bool, true, cond, ◌&&◌, ◌||◌, leb, eqb, ℤ}
use Rattle.slots.specs.declared.Guidance.{Guidance}
use Rattle.slots.specs.declared.Guidance.TheVariants.{Of2005, Of2009}
use Rattle.slots.specs.declared.Rule.{Rule}
use Rattle.slots.specs.Slots.{year_of}
use Rattle.powers.specs.Powers.{above, below}

unfoldable pub value_at_most : ℕ → ℕ → ℤ → Bool
value_at_most most digits power = leb (digits * 10 ^ above power) (most * 10 ^ below power)

-- 1E-20 is the smallest value but 0
unfoldable pub value_at_least : ℕ → ℤ → Bool
value_at_least digits power = leb (10 ^ below power) (digits * 10 ^ (above power + 20))

-- 0 where it is allowed, or from 1E-20 to the largest value
unfoldable pub within_bounds : Rule → ℕ → ℤ → Bool
within_bounds rule digits power = cond (eqb digits 0) rule.zero (value_at_least digits power && value_at_most rule.most digits power)

-- the year of a guidance, by value: 2005.0 and 2.005E+03 are 2005
unfoldable pub is_year_of : Guidance → ℕ → ℤ → Bool
is_year_of guidance digits power = eqb (digits * 10 ^ above power) (year_of guidance * 10 ^ below power)

unfoldable pub is_year : ℕ → ℤ → Bool
is_year digits power = is_year_of Of2005 digits power || is_year_of Of2009 digits power

unfoldable pub in_range : Rule → ℕ → ℤ → Bool
in_range rule digits power = within_bounds rule digits power && cond rule.year (is_year digits power) true
