-- The report of a scenario whose guidance is of 2005 (document 02, P6): its rows, its length and its conditions are those with the year's slot
-- blank. Assumes nothing.
use mathlib.Core.Path.{◌≡◌, refl}
use Prim.Native.Nat.{ℕ}
use mathlib.Core.List.{List}
use Rattle.text.specs.declared.Row.{Row}
use Rattle.slots.specs.declared.Guidance.TheVariants.{Of2005}
use Rattle.scenario.specs.declared.Scenario.{Scenario}
use Rattle.scenario.specs.Scenario.{chemical_in, receptor_in, guidance_in}
use Rattle.sheet.specs.Sheet.{lines_per_receptor}
use Rattle.lists.proofs.Chained.{chained_same}
use Rattle.sheet.proofs.YearLaws.{year_blank, columns_same, total_same, large_same}
use Rattle.report.specs.Forms.{form_conditions}
use Rattle.report.specs.Report.{row_at, total_row, rows_at, rows_of}

module _ (s : Scenario) (of2005 : guidance_in s ≡ Of2005) where
  rows_at_lem : (j : ℕ) → rows_at (year_blank s) j ≡ rows_at s j
  unfolding rows_at row_at total_row receptor_in chemical_in
  rows_at_lem j = simp (columns_same s of2005, total_same s of2005)

  pub rows_same : rows_of (year_blank s) ≡ rows_of s
  unfolding rows_of
  rows_same = chained_same (rows_at (year_blank s)) (rows_at s) s.receptors.count (λ j h. rows_at_lem j)

  pub conditions_same : (rows : List Row) (room : ℕ) → form_conditions rows (year_blank s) room ≡ form_conditions rows s room
  unfolding form_conditions
  conditions_same rows room = simp (large_same s of2005)
