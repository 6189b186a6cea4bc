-- The numbers of a report's lines have room in their columns: ids of six digits, pathways of two, counts of twenty. Assumes nothing.
use mathlib.Core.Path.{◌≡◌, refl, sym, subst}
use mathlib.Core.Bool.{Bool, true, false, cond}
use mathlib.Core.List.{List}
use Prim.Native.Nat.{ℕ, ◌+◌, ◌*◌, ◌-◌, ◌^◌, ◌≤◌, ◌<◌}
use native.Mathlib.Nat.{le_refl, pow-le-pow_right}
use native.Mathlib.Omega.{arith}
use lib.Dec.{ltb, eqb, lit≤, lit<}
use lib.ListN.{length, get_or, take, drop, replicate, length-take, length-drop}
use Rattle.equations.specs.declared.Effect.{Effect}
use Rattle.equations.specs.declared.Effect.TheVariants.{Hazard, Cancer}
use Rattle.cases.specs.Conditions.{passed}
use Rattle.cases.specs.Conditions.{first}
use Rattle.std.specs.Prelude.{Some, None}
use Rattle.sizes.specs.Sizes.{pathways_per_chemical, most_lines}
use Rattle.spelling.specs.Columns.{id_width}
use Rattle.totals.specs.Totals.{Columns, largest_number}
use Rattle.text.specs.Text.{count_width, CountsFit, FitsColumns}
use Rattle.scenario.specs.declared.Scenario.{Scenario}
use Rattle.scenario.specs.Scenario.{chemical_in, receptor_in, Exact}
use Rattle.sheet.specs.Sheet.{pathway_at, columns_at, total_at, large_lines}
use Rattle.sheet.specs.Counts.{CountsMost}
use Rattle.report.specs.Report.{row_at, total_row}
use Rattle.scenario.proofs.Sound.{Sound}
use Rattle.sheet.proofs.SheetCaseLaws.{columns_small, total_small, sound_figured}

-- a scenario whose records have ids of six digits
pub record SmallIds (scenario : Scenario) : Type 0 where
  pub receptor : (j : ℕ) → j < scenario.receptors.count → (receptor_in scenario j).id < 10 ^ id_width
  pub chemical : (i : ℕ) → i < scenario.chemicals.count → (chemical_in scenario i).id < 10 ^ id_width

-- ---- counts
counts_fit : (m : ℕ) (columns : Columns) → m < 10 ^ count_width → CountsMost m columns → CountsFit columns
unfolding CountsFit CountsMost
counts_fit m None h most = tt
counts_fit m (Some n) h most = (omega (arith, most.0), omega (arith, most.1))

-- ---- lines
module _ (scenario : Scenario) (ids : SmallIds scenario) {exact : Exact} (sound : Sound scenario exact) (small : first (large_lines scenario) ≡ passed) where
  pub row_fits : (j i p : ℕ) → j < scenario.receptors.count → i < scenario.chemicals.count → p < pathways_per_chemical → FitsColumns (row_at scenario j i p)
  unfolding row_at
  row_fits j i p a b h =
      let counts : (e : Effect) → CountsFit (columns_at e scenario j i (pathway_at p)) = λ e. counts_fit largest_number _ (lit< tt) (columns_small scenario (sound_figured scenario sound) small e j i p a b h) in
      record { receptor = ids.receptor j a; chemical = ids.chemical i b; pathway = omega arith; hazard = counts Hazard; cancer = counts Cancer }

  pub total_row_fits : (j : ℕ) → j < scenario.receptors.count → FitsColumns (total_row scenario j)
  unfolding total_row
  total_row_fits j a =
      let counts : (e : Effect) → CountsFit (total_at e scenario j) = λ e. counts_fit (most_lines * largest_number) _ (lit< tt) (total_small scenario (sound_figured scenario sound) small e j a) in
      record { receptor = ids.receptor j a; chemical = lit< tt; pathway = lit< tt; hazard = counts Hazard; cancer = counts Cancer }
