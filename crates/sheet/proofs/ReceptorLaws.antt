-- A receptor's lines: chemical after chemical, each of six pathways, so that line q is that of chemical q / 6 and pathway q % 6; and 53 and 42 by line.
-- Assumes nothing.
use Rattle.cases.specs.declared.Stop.{Stop}
use Rattle.std.specs.Prelude.{Err}
use mathlib.Core.Path.{◌≡◌, ap, ap₂, ◌∙◌}
use mathlib.Core.Bool.{Bool}
use mathlib.Core.List.{List}
use Prim.Native.Nat.{ℕ, ◌+◌, ◌*◌, ◌/◌, ◌%◌, ◌<◌}
use native.Mathlib.Numerals.{add-one}
use native.Mathlib.Omega.{arith}
use lib.ListN.{length, get_or}
use Rattle.sizes.specs.Sizes.{pathways_per_chemical}
use Rattle.equations.specs.declared.Effect.{Effect}
use Rattle.equations.specs.declared.Pathway.{Pathway}
use Rattle.equations.specs.declared.Values.{Values}
use Rattle.lists.proofs.ListLaws.{read_any}
use Rattle.media.specs.declared.Media.{Media}
use Rattle.media.specs.Media.{no_media}
use Rattle.pathway.specs.Lines.{Figured, Shared, habits_of, figures_with}
use Rattle.cases.specs.Conditions.{Status}
use Rattle.cases.specs.Conditions.{passed, stopped}
use Rattle.cases.specs.Conditions.{first}
use Rattle.totals.specs.Totals.{Columns}
use Rattle.scenario.specs.declared.Receptor.{Receptor}
use Rattle.scenario.specs.declared.Site.{Site}
use Rattle.sheet.specs.declared.Source.{Source}
use Rattle.sheet.specs.declared.Sources.{Sources}
use Rattle.scenario.specs.Scenario.{no_receptor}
use Rattle.lists.specs.Lists.{chained}
use Rattle.sheet.specs.Sheet.{pathway_at}
use Rattle.sheet.specs.Inner.{no_source, source_at, columns_of, mean_at, figures_from, figure_for, figures_worked, source_columns, columns_worked, fault_at, faulty_line, faulty_chemical, faulty_worked, per_receptor, all_faulty}
use Rattle.cases.proofs.FirstMet.{goes_on, stops}

-- A chemical's line, as it is worked from what its receptor's lines share.
module _ (site' : Site) (j : ℕ) (r : Values) (source : Source) (blank : Media) (here : j < length source.means) (h : Shared) (p : ℕ) (w : Pathway) (figured' : Figured) (own : h ≡ habits_of site'.guidance r) (way : w ≡ pathway_at p)
    (worked : figured' ≡ figures_with h w site'.values source.absorbed r source.media (get_or source.means j blank) source.references) where
  figures_are : figured' ≡ figures_from site' j r source (pathway_at p)
  unfolding figures_from mean_at
  figures_are =
      worked
      ∙ ap₂ (λ (x : Shared) (m : Media). figures_with x w site'.values source.absorbed r source.media m source.references) own (read_any source.means j here blank no_media)
      ∙ ap (figures_from site' j r source) way

  pub fault_is : (capped : Bool) (l : ℕ) (s : Status) → s ≡ first (fault_at capped figured' l) → s ≡ first (fault_at capped (figures_from site' j r source (pathway_at p)) l)
  fault_is capped l s e = e ∙ ap (λ (f : Figured). first (fault_at capped f l)) figures_are

  pub columns_are : (e : Effect) (u : Columns) → u ≡ columns_of e (figure_for e figured') → u ≡ source_columns site' j r source p e
  unfolding source_columns
  columns_are e u q = q ∙ ap (λ (f : Figured). columns_of e (figure_for e f)) figures_are

-- 53 or 42 at it
module _ (capped : Bool) (site' : Site) (j : ℕ) (r : Values) (source : Source) (before p : ℕ) (none : first (chained (faulty_line capped site' j r source before) p) ≡ passed)
    (s : Status) (told : s ≡ first (fault_at capped (figures_from site' j r source (pathway_at p)) (before + (p + 1)))) where
  told_here : s ≡ first (faulty_line capped site' j r source before p)
  unfolding faulty_line
  told_here = told ∙ ap (λ (n : ℕ). first (fault_at capped (figures_from site' j r source (pathway_at p)) (before + n))) (add-one p)

  pub line_fits : s ≡ passed → first (chained (faulty_line capped site' j r source before) (p + 1)) ≡ passed
  line_fits h = goes_on (faulty_line capped site' j r source before) p none s told_here h

  pub line_stops : p < pathways_per_chemical → (halt : Stop) → s ≡ Err halt → s ≡ first (faulty_chemical capped site' j r source before)
  unfolding faulty_chemical
  line_stops l halt e = stops (faulty_line capped site' j r source before) p none s told_here pathways_per_chemical l halt e

-- Chemical after chemical.
module _ (capped : Bool) (site' : Site) (j : ℕ) (r : Values) (sources : Sources) (blank : Source) (i : ℕ) (here : i < length sources.list) where
  source_is : get_or sources.list i blank ≡ source_at sources i
  unfolding source_at
  source_is = read_any sources.list i here blank no_source

  pub lines_are : (p : ℕ) → p < pathways_per_chemical → (e : Effect) → source_columns site' j r (get_or sources.list i blank) p e ≡ columns_worked site' sources j r (i * pathways_per_chemical + p) e
  unfolding source_columns columns_worked figures_worked
  lines_are p h e =
      let d : i ≡ (i * pathways_per_chemical + p) / pathways_per_chemical = omega arith in
      let m : p ≡ (i * pathways_per_chemical + p) % pathways_per_chemical = omega arith in
      ap (λ (s : Source). columns_of e (figure_for e (figures_from site' j r s (pathway_at p)))) (source_is ∙ ap (source_at sources) d)
      ∙ ap (λ (k : ℕ). columns_of e (figure_for e (figures_from site' j r (source_at sources ((i * pathways_per_chemical + p) / pathways_per_chemical)) (pathway_at k)))) m

  module _ (before : ℕ) (s : Status) (is_first : s ≡ first (faulty_chemical capped site' j r (get_or sources.list i blank) (before + i * pathways_per_chemical)))
      (none : first (chained (λ k. faulty_chemical capped site' j r (source_at sources k) (before + k * pathways_per_chemical)) i) ≡ passed) where
    chemical_is : s ≡ first (faulty_chemical capped site' j r (source_at sources i) (before + i * pathways_per_chemical))
    chemical_is = is_first ∙ ap (λ (x : Source). first (faulty_chemical capped site' j r x (before + i * pathways_per_chemical))) source_is

    pub chemical_on : s ≡ passed → first (chained (λ k. faulty_chemical capped site' j r (source_at sources k) (before + k * pathways_per_chemical)) (i + 1)) ≡ passed
    chemical_on read = goes_on (λ k. faulty_chemical capped site' j r (source_at sources k) (before + k * pathways_per_chemical)) i none s chemical_is read

    pub chemical_stops : i < sources.count → (halt : Stop) → s ≡ Err halt → s ≡ first (faulty_worked capped site' sources j r before)
    unfolding faulty_worked
    chemical_stops l halt q =
        stops (λ k. faulty_chemical capped site' j r (source_at sources k) (before + k * pathways_per_chemical)) i none s chemical_is sources.count l halt q

-- Receptor after receptor.
module _ (capped : Bool) (site' : Site) (sources : Sources) (list : List Receptor) (blank : Receptor) (j : ℕ) (here : j < length list) (r : Values)
    (is_receptor : r ≡ (get_or list j blank).values) where
  pub receptor_is : r ≡ (get_or list j no_receptor).values
  receptor_is = is_receptor ∙ ap (λ (x : Receptor). x.values) (read_any list j here blank no_receptor)

  module _ (s : Status) (is_first : s ≡ first (faulty_worked capped site' sources j r (j * per_receptor sources.count))) (none : first (all_faulty capped site' sources list j) ≡ passed) where
    fault_is_here : s ≡ first (faulty_worked capped site' sources j (get_or list j no_receptor).values (j * per_receptor sources.count))
    fault_is_here = is_first ∙ ap (λ (x : Values). first (faulty_worked capped site' sources j x (j * per_receptor sources.count))) receptor_is

    pub fault_on : s ≡ passed → first (all_faulty capped site' sources list (j + 1)) ≡ passed
    unfolding all_faulty
    fault_on read = goes_on (λ k. faulty_worked capped site' sources k (get_or list k no_receptor).values (k * per_receptor sources.count)) j none s fault_is_here read

    pub fault_stops : (count : ℕ) → j < count → (halt : Stop) → s ≡ Err halt → s ≡ first (all_faulty capped site' sources list count)
    unfolding all_faulty
    fault_stops count l halt q =
        stops (λ k. faulty_worked capped site' sources k (get_or list k no_receptor).values (k * per_receptor sources.count)) j none s fault_is_here count l halt q
