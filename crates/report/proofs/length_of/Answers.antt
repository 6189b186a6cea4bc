-- The product of the counts. Assumes nothing.
use Prim.Native.Nat.{◌+◌}
use borrow.Author.Rules.{rules}
use lib.Dec.{lit<}
use native.Mathlib.Nat.{lt_of_le_of_lt, mul-le-mul, mul-le-mul_left}
use Rattle.text.specs.Text.{report_line_width}
use Rattle.sizes.specs.Sizes.{most_lines, most_receptors}
use Rattle.report.proofs.length_of.Goals as goal

pub overflow_mul-result-2 : goal.overflow_mul-result-2
overflow_mul-result-2 c = record { fits = lt_of_le_of_lt (mul-le-mul {n₂ = most_receptors} {m₂ = (most_lines + 1)} (search rules) (search rules)) (lit< tt) }

pub overflow_mul-result-3 : goal.overflow_mul-result-3
overflow_mul-result-3 c = record { fits = lt_of_le_of_lt (mul-le-mul_left report_line_width (mul-le-mul {n₂ = most_receptors} {m₂ = (most_lines + 1)} (search rules) (search rules))) (lit< tt) }
