-- Document 01's checked figures hold of the definitions, all of them jointly. Assumes nothing.
use mathlib.Core.Path.{refl}
use Rattle.pair.specs.Number.{nine_figures, in_reach, zero_exponent, is_zero, is_number, zero, one, lesser, rise, units_at, lower, at_most, is_pair}
use Rattle.pair.specs.Rounding.{extra, divided, excess_from, excess, carried, rounded, product_end, quotient_end, rest_end}
use Rattle.pair.specs.Calls as calls
use Rattle.pair.specs.Calls.{provided, after, after_one, entry, product, quotient, one_minus, one_minus_entry}
use Rattle.pair.specs.Figures.{Each, figures, ◌⊗◌, ◌⊘◌, whole, both_ends}

pub figures_hold : Each figures
unfolding figures ◌⊗◌ ◌⊘◌ whole both_ends nine_figures in_reach zero_exponent is_zero is_number zero one lesser rise units_at lower at_most is_pair extra divided excess_from excess carried rounded product_end quotient_end rest_end provided calls.ends after after_one entry product quotient one_minus one_minus_entry
figures_hold = (refl, (refl, (refl, (refl, (refl, (refl, tt))))))
