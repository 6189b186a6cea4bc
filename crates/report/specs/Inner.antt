-- For the contracts of this crate's inner functions only: the report's rows as they are written, from the cells that hold its counts, and where a report
-- stops once there is room for its records. proofs/ shows that they are those of Report.antt and InMemory.antt, of which alone the calls speak.
use Rattle.std.specs.Prelude.{ℕ, ◌+◌, ◌*◌, ◌/◌, ◌%◌, List, [], ◌∷◌, ◌++◌, Bool, get_or}
use Rattle.equations.specs.declared.Effect.TheVariants.{Hazard, Cancer}
use Rattle.cases.specs.declared.Chemicals.{Chemicals}
use Rattle.cases.specs.Cases.{no_record}
use Rattle.text.specs.declared.Row.{Row}
use Rattle.sizes.specs.Sizes.{pathways_per_chemical}
use Rattle.lists.specs.Lists.{chained}
use Rattle.sheet.specs.Counts.{conditions_by, columns_in, total_in}
pub use Rattle.sheet.specs.Inner.{per_receptor}
use Rattle.scenario.specs.declared.Receptor.{Receptor}
use Rattle.scenario.specs.Scenario.{no_receptor}
use Rattle.report.specs.Forms.{too_short}
use Rattle.report.specs.InMemory.{Road}

-- receptor j's line q, counted from 0, and the total line of its first n lines
unfoldable pub row_in : List ℕ → ℕ → ℕ → ℕ → ℕ → Row
row_in cells j id' chemical' q =
    record { receptor = id'; chemical = chemical'; pathway = q % pathways_per_chemical + 1; hazard = columns_in cells j Hazard q; cancer = columns_in cells j Cancer q }

unfoldable pub total_row_in : List ℕ → ℕ → ℕ → ℕ → Row
total_row_in cells j id' n = record { receptor = id'; chemical = 0; pathway = 0; hazard = total_in cells j Hazard n; cancer = total_in cells j Cancer n }

-- its first n lines, all of them with the total line, and those of the first receptors
unfoldable pub lines_in : List ℕ → ℕ → ℕ → Chemicals → ℕ → List Row
lines_in cells j id' chemicals' = chained (λ q. row_in cells j id' (get_or chemicals'.records (q / pathways_per_chemical) no_record).id q ∷ [])

unfoldable pub rows_in : List ℕ → ℕ → ℕ → Chemicals → List Row
rows_in cells j id' chemicals' =
    let n = chemicals'.count * pathways_per_chemical in
    lines_in cells j id' chemicals' n ++ (total_row_in cells j id' n ∷ [])

unfoldable pub report_in : List ℕ → Chemicals → List Receptor → ℕ → List Row
report_in cells chemicals' list = chained (λ j. rows_in cells j (get_or list j no_receptor).id chemicals')

-- where a report stops from 51 on: for the buffer's length, then as its sheet stops
unfoldable pub from_room : Bool → Road
from_room tested rows scenario room = too_short rows room ∷ conditions_by tested scenario
