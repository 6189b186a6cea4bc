-- The counts of both ends, or none. Assumes nothing.
use Rattle.std.proofs.Common.{◌≡◌, refl, ap, ◌∙◌}
use Rattle.std.specs.Prelude.{Result, Ok, Err}
use Rattle.std.specs.Result.{result_ok}
use mir.Facts.{to_z-of_z}
use Rattle.pair.specs.declared.Units.{Units}
use Rattle.pair.specs.declared.Refused.{Refused}
use Rattle.pair.specs.Calls.{answer}
use Rattle.sheet.specs.Sheet.{counted, counted_in}
use Rattle.sheet.proofs.counting.counted.Goals as goal

as_counted : (r : Result Units Refused) → result_ok r ≡ counted (answer r)
unfolding answer counted
as_counted (Ok n) = refl
as_counted (Err e) = refl

pub returns : goal.returns
unfolding counted_in
returns c = c.ok.ensures.value ∙ as_counted _ ∙ ap counted (rw (to_z-of_z c.ranges.unit) at c.in_units.ensures)
