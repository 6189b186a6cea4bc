-- The report (document 01, "Report"): its lines, as a form (Forms.antt), and the report call.
use Rattle.std.specs.Prelude.{ℕ, suc, List, [], ◌∷◌, ◌++◌}
use Rattle.sizes.specs.Sizes.{pathways_per_chemical}
use Rattle.lists.specs.Lists.{chained}
use Rattle.slots.specs.declared.Sort.TheVariants.{Ordinary}
use Rattle.equations.specs.declared.Effect.TheVariants.{Hazard, Cancer}
use Rattle.text.specs.declared.Row.{Row}
use Rattle.scenario.specs.declared.Scenario.{Scenario}
use Rattle.scenario.specs.Scenario.{chemical_in, receptor_in, entered_from, exact_from}
use Rattle.sheet.specs.Sheet.{pathway_at, columns_at, total_at}
use Rattle.report.specs.Forms.{Call}

-- ---- the lines: of receptor j, chemical i and pathway p, all counted from 0; pathways are printed from 1
unfoldable pub row_at : Scenario → ℕ → ℕ → ℕ → Row
row_at scenario j i p =
    record {
      receptor = (receptor_in scenario j).id;
      chemical = (chemical_in scenario i).id;
      pathway = suc p;
      hazard = columns_at Hazard scenario j i (pathway_at p);
      cancer = columns_at Cancer scenario j i (pathway_at p);
    }

unfoldable pub total_row : Scenario → ℕ → Row
total_row scenario j =
    record { receptor = (receptor_in scenario j).id; chemical = 0; pathway = 0; hazard = total_at Hazard scenario j; cancer = total_at Cancer scenario j }

-- per receptor, per chemical, pathways 1 to 6, then one total line
unfoldable pub rows_at : Scenario → ℕ → List Row
rows_at scenario j = chained (λ i. chained (λ p. row_at scenario j i p ∷ []) pathways_per_chemical) scenario.chemicals.count ++ (total_row scenario j ∷ [])

unfoldable pub rows_of : Scenario → List Row
rows_of scenario = chained (rows_at scenario) scenario.receptors.count

-- the report call: an ordinary deck's receptors as given there
unfoldable pub ordinary : Call
ordinary = record { sort = Ordinary; receptors = entered_from; exact = exact_from; form = rows_of }
