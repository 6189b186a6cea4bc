-- `spelling::reading::id_in` meets its contract: six digits fit.
-- Assumes nothing.
use native.Mathlib.Omega.{arith}
use mathlib.Core.Path.{sym, ◌∙◌}
use Rattle.spelling.proofs.WordLaws.{id_fits}
use Rattle.spelling.proofs.reading.id_in.Goals as goal

pub overflow_cast-result : goal.overflow_cast-result
overflow_cast-result c =
    let digits = c.leading_digits-id.ensures in
    omega (arith, digits.value_value, id_fits _ (sym digits.count_value ∙ c.if-id-text.false) c.if-text-gt-ID_WIDTH.false)
