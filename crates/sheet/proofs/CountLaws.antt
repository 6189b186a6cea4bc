-- The counts of a scenario as they are worked are those that Counts.antt defines: the condition that stops it, and every cell.
-- Assumes nothing.
use Rattle.cases.specs.declared.Stop.{Stop}
use Rattle.std.specs.Prelude.{Err}
use Rattle.cases.specs.Conditions.{accepted}
use mathlib.Core.Path.{◌≡◌, refl, sym, ap, ap₂, ◌∙◌}
use mathlib.Core.Bool.{Bool, true, false, cond, ◌&&◌, ◌||◌}
use mathlib.Core.List.{List, [], ◌∷◌, ◌++◌}
use mathlib.Core.Logic.{◌≢◌}
use Prim.Native.Nat.{ℕ, zero, suc, ◌+◌, ◌*◌, ◌/◌, ◌%◌, ◌≤◌, ◌<◌}
use native.Mathlib.Omega.{arith}
use borrow.Author.Tests.{ltb-true, ltb-false}
use lib.Dec.{ltb}
use lib.ListN.{length, get_or}
use lib.Seq.{ext_get_or}
use Rattle.sizes.specs.Sizes.{max_chemicals, most_lines, most_receptors, pathways_per_chemical}
use Rattle.equations.specs.declared.Effect.{Effect}
use Rattle.equations.specs.declared.Effect.TheVariants.{Hazard, Cancer}
use Rattle.equations.specs.declared.Values.{Values}
use Rattle.pathway.specs.Lines.{Figured}
use Rattle.cases.specs.Conditions.{Status}
use Rattle.cases.specs.Conditions.{passed, stopped}
use Rattle.cases.specs.Conditions.{Verdict}
use Rattle.cases.specs.declared.Refusal.{Refusal}
use Rattle.cases.specs.Conditions.{Condition, at, first, told_of, verdict_of}
use Rattle.cases.specs.CaseConditions.{memory_conditions, lacks}
use Rattle.cases.proofs.CaseConditionLaws.{counts_inside, memory_nowhere}
use Rattle.slots.specs.declared.Owner.TheVariants.{Site as OfSite, Chemical}
use Rattle.slots.specs.declared.Sort.TheVariants.{Ordinary}
use Rattle.lists.proofs.Booleans.{neither}
use Rattle.cases.proofs.FirstMet.{or_else, first_append, first_read, chained_each, told_without, told_alone, verdict_passed}
use Rattle.lists.proofs.Tabulated.{tabulated, length_tabulate}
use Rattle.std.specs.Prelude.{None}
use Rattle.scenario.specs.declared.Scenario.{Scenario}
use Rattle.scenario.specs.Scenario.{values_of, chemical_in, receptor_in, no_guidance, site_of, is_refused, ids_of, scenario_conditions, unpaired_in}
use Rattle.scenario.specs.declared.Site.{Site}
use Rattle.sheet.specs.declared.Source.{Source}
use Rattle.sheet.specs.declared.Sources.{Sources}
use Rattle.lists.specs.Lists.{chained}
use Rattle.sheet.specs.Sheet.{pathway_at, columns_at, unworked, over_cap, lines_per_receptor, report_line, line_refused, line_too_large, over_lines, refused_lines, large_lines, faulty_lines}
use Rattle.sheet.specs.Counts.{miscounted, ground_for, mean_for, stops_at, no_media_at, unmade, refusals, sheet_conditions, entered_conditions, Part, cell_of, side_of, effect_at, part_at, line_columns, cell_at, cells_of, no_cells, cells_for, conditions_by, status_by, cells_by, all_cells, effect_cells, receptor_cells}
use Rattle.sheet.specs.Inner.{columns_of, above_cap, ground_with, source_of, sources_of, source_at, stops_with, refused_source, figures_from, figure_for, figures_worked, columns_worked, is_large, is_broken, fault_at, faulty_line, faulty_chemical, faulty_worked, per_receptor, all_faulty, lines_faulty, worked_by, strictly, part_of, CellsFilled, ZeroFrom}
use Rattle.lists.proofs.Chained.{chained_same}
use Rattle.sheet.proofs.ChemicalLaws.{source_at_lem}
use Rattle.sheet.proofs.SourceLaws.{line_figures}
use Rattle.sheet.proofs.FaultLaws.{Mixed, lines_same, mixed_lines, strict_passes, strict_other, strict_refused, strict_large}
use Rattle.sheet.proofs.SheetWithout.{unmade_without}

-- ---- the cells
-- column c of a receptor's six stands at this place
column_place : (c : ℕ) → c < 2 * 3 → 3 * side_of (effect_at c) + part_of (part_at c) ≡ c
unfolding side_of effect_at part_of part_at
column_place zero h = refl
column_place (suc zero) h = refl
column_place (suc (suc zero)) h = refl
column_place (suc (suc (suc zero))) h = refl
column_place (suc (suc (suc (suc zero)))) h = refl
column_place (suc (suc (suc (suc (suc zero))))) h = refl
column_place (suc (suc (suc (suc (suc (suc c)))))) h = absurd (omega arith)

module _ (scenario : Scenario) (site' : Site) (sources : Sources) (cells : List ℕ) (count_is : sources.count ≡ scenario.chemicals.count)
    (agree : (j q : ℕ) → j < scenario.receptors.count → q < scenario.chemicals.count * pathways_per_chemical → (e : Effect) → columns_worked site' sources j (receptor_in scenario j).values q e ≡ columns_at e scenario j (q / pathways_per_chemical) (pathway_at (q % pathways_per_chemical)))
    (filled : CellsFilled site' sources scenario.receptors.list scenario.receptors.count cells) (rest : ZeroFrom (receptor_cells * scenario.receptors.count) cells) where
  cell_is : (j q k : ℕ) (e : Effect) (w : Part) → k ≡ receptor_cells * j + effect_cells * side_of e + most_lines * part_of w + q → receptor_cells * j ≤ k → q < most_lines → (t u : Bool) → ltb j scenario.receptors.count ≡ t
      → ltb q (scenario.chemicals.count * pathways_per_chemical) ≡ u → get_or cells k 0 ≡ cell_of w (cond (t && u) (columns_at e scenario j (q / pathways_per_chemical) (pathway_at (q % pathways_per_chemical))) None)
  unfolding cell_of receptor_in
  cell_is j q k e w place least small true true a b =
      rw place
      ((filled j (ltb-true j scenario.receptors.count a)).0 e w q (rw count_is (ltb-true q (scenario.chemicals.count * pathways_per_chemical) b))
      ∙ ap (cell_of w) (agree j q (ltb-true j scenario.receptors.count a) (ltb-true q (scenario.chemicals.count * pathways_per_chemical) b) e))
  cell_is j q k e w place least small true false a b =
      rw place ((filled j (ltb-true j scenario.receptors.count a)).1 e w q (omega (arith, count_is, ltb-false q (scenario.chemicals.count * pathways_per_chemical) b)) small)
  cell_is j q k e w place least small false u a b = rest k (omega (arith, ltb-false j scenario.receptors.count a))

  filled_at_place : (k : ℕ) → k < all_cells → get_or cells k 0 ≡ cell_at scenario k
  unfolding cell_at line_columns
  filled_at_place k h =
      let c : ℕ = k % receptor_cells / most_lines in
      let p : 3 * side_of (effect_at c) + part_of (part_at c) ≡ c = column_place c (omega arith) in
      cell_is (k / receptor_cells) (k % most_lines) k (effect_at c) (part_at c) (omega arith) (omega arith) (omega arith)
      (ltb (k / receptor_cells) scenario.receptors.count) (ltb (k % most_lines) (scenario.chemicals.count * pathways_per_chemical)) refl refl

  filled_cells : length cells ≡ all_cells → cells ≡ cells_of scenario
  unfolding cells_of
  filled_cells long =
      ext_get_or 0 cells (cells_of scenario) (long ∙ sym (length_tabulate (cell_at scenario) 0 0 all_cells))
      (λ k h. filled_at_place k (omega arith) ∙ sym (tabulated (cell_at scenario) 0 all_cells k (omega arith)))

-- ---- the lines of a scenario of which no chemical stops
module _ (scenario : Scenario) (site' : Site) (sources : Sources) (capped : Bool) (at_site : site' ≡ site_of scenario.site) (sources_are : sources ≡ sources_of site'.values scenario.receptors scenario.chemicals)
    (none : first (chained (no_media_at scenario) scenario.chemicals.count) ≡ passed) where
  count_is : sources.count ≡ scenario.chemicals.count
  unfolding sources_of
  count_is = ap (λ (x : Sources). x.count) sources_are

  media_found : (i : ℕ) → i < scenario.chemicals.count → stops_at (ground_for scenario i) (mean_for scenario i) scenario.receptors.count ≡ false
  unfolding no_media_at
  media_found i h =
      (neither (lacks Ordinary Chemical (chemical_in scenario i)) (stops_at (ground_for scenario i) (mean_for scenario i) scenario.receptors.count)
      (first_read (at 53 (suc i) 0 (lacks Ordinary Chemical (chemical_in scenario i) || stops_at (ground_for scenario i) (mean_for scenario i) scenario.receptors.count)) [] (chained_each (no_media_at scenario) scenario.chemicals.count none i h)).0).1

  -- the line of chemical i by pathway p
  module _ (j i p : ℕ) (l : j < scenario.receptors.count) (h : i < scenario.chemicals.count) where
    figures_are : figures_from site' j (receptor_in scenario j).values (source_at sources i) (pathway_at p)
        ≡ figures_from (site_of scenario.site) j (receptor_in scenario j).values (source_of (values_of scenario.site) scenario.receptors (chemical_in scenario i)) (pathway_at p)
    unfolding chemical_in site_of
    figures_are =
        let r : Values = (receptor_in scenario j).values in
        ap (λ (x : Sources). figures_from site' j r (source_at x i) (pathway_at p)) sources_are
        ∙ ap (λ (s : Source). figures_from site' j r s (pathway_at p)) (source_at_lem site'.values scenario.receptors scenario.chemicals i h)
        ∙ ap (λ (v : Site). figures_from v j r (source_of v.values scenario.receptors (chemical_in scenario i)) (pathway_at p)) at_site

    figure_columns : (e : Effect) → columns_of e (figure_for e (figures_from site' j (receptor_in scenario j).values (source_at sources i) (pathway_at p))) ≡ columns_at e scenario j i (pathway_at p)
    figure_columns e = ap (λ (f : Figured). columns_of e (figure_for e f)) figures_are ∙ (line_figures scenario j i (pathway_at p) l (media_found i h) e).0

    cap_agrees : (e : Effect) → above_cap e (figure_for e (figures_from site' j (receptor_in scenario j).values (source_at sources i) (pathway_at p))) ≡ over_cap e scenario j i (pathway_at p)
    cap_agrees e = ap (λ (f : Figured). above_cap e (figure_for e f)) figures_are ∙ (line_figures scenario j i (pathway_at p) l (media_found i h) e).1

    broken_agrees : (e : Effect) → is_refused (figure_for e (figures_from site' j (receptor_in scenario j).values (source_at sources i) (pathway_at p))) ≡ unworked e scenario j i (pathway_at p)
    broken_agrees e = ap (λ (f : Figured). is_refused (figure_for e f)) figures_are ∙ (line_figures scenario j i (pathway_at p) l (media_found i h) e).2

    line_agrees : faulty_line capped site' j (receptor_in scenario j).values (source_at sources i) (j * per_receptor sources.count + i * pathways_per_chemical) p
        ≡ line_refused scenario j i p ++ (at 42 (report_line scenario j i p) 0 (capped && (over_cap Hazard scenario j i (pathway_at p) || over_cap Cancer scenario j i (pathway_at p))) ∷ [])
    unfolding faulty_line fault_at line_refused report_line lines_per_receptor is_large is_broken figure_for
    line_agrees =
        let place : j * per_receptor sources.count + i * pathways_per_chemical + suc p ≡ j * per_receptor scenario.chemicals.count + i * pathways_per_chemical + suc p = rw count_is refl in
        let broken : (is_refused (figures_from site' j (receptor_in scenario j).values (source_at sources i) (pathway_at p)).hazard || is_refused (figures_from site' j (receptor_in scenario j).values (source_at sources i) (pathway_at p)).cancer) ≡ (unworked Hazard scenario j i (pathway_at p) || unworked Cancer scenario j i (pathway_at p)) = ap₂ ◌||◌ (broken_agrees Hazard) (broken_agrees Cancer) in
        ap₂ (λ (n : ℕ) (b : Bool). at 53 n 0 b ∷ at 42 n 0 (capped && (above_cap Hazard (figures_from site' j (receptor_in scenario j).values (source_at sources i) (pathway_at p)).hazard || above_cap Cancer (figures_from site' j (receptor_in scenario j).values (source_at sources i) (pathway_at p)).cancer)) ∷ []) place broken
        ∙ ap (λ (b : Bool). at 53 (j * per_receptor scenario.chemicals.count + i * pathways_per_chemical + suc p) 0 (unworked Hazard scenario j i (pathway_at p) || unworked Cancer scenario j i (pathway_at p)) ∷ at 42 (j * per_receptor scenario.chemicals.count + i * pathways_per_chemical + suc p) 0 (capped && b) ∷ []) (ap₂ ◌||◌ (cap_agrees Hazard) (cap_agrees Cancer))

  columns_agree : (j q : ℕ) → j < scenario.receptors.count → q < scenario.chemicals.count * pathways_per_chemical → (e : Effect) → columns_worked site' sources j (receptor_in scenario j).values q e ≡ columns_at e scenario j (q / pathways_per_chemical) (pathway_at (q % pathways_per_chemical))
  unfolding columns_worked figures_worked
  columns_agree j q l h e = figure_columns j (q / pathways_per_chemical) (q % pathways_per_chemical) l (omega arith) e

  abbrev faults : ℕ → ℕ → ℕ → List Condition
  faults j i p = line_refused scenario j i p ++ (at 42 (report_line scenario j i p) 0 (capped && (over_cap Hazard scenario j i (pathway_at p) || over_cap Cancer scenario j i (pathway_at p))) ∷ [])

  receptor_agrees : (j : ℕ) → j < scenario.receptors.count → faulty_worked capped site' sources j (receptor_in scenario j).values (j * per_receptor sources.count)
      ≡ chained (λ i. chained (faults j i) pathways_per_chemical) scenario.chemicals.count
  unfolding faulty_worked faulty_chemical
  receptor_agrees j m =
      let r : Values = (receptor_in scenario j).values in
      let before : ℕ = j * per_receptor sources.count in
      ap (chained (λ i. chained (faulty_line capped site' j r (source_at sources i) (before + i * pathways_per_chemical)) pathways_per_chemical)) count_is
      ∙ chained_same (λ i. chained (faulty_line capped site' j r (source_at sources i) (before + i * pathways_per_chemical)) pathways_per_chemical) (λ i. chained (faults j i) pathways_per_chemical) scenario.chemicals.count
      (λ i h. chained_same (faulty_line capped site' j r (source_at sources i) (before + i * pathways_per_chemical)) (faults j i) pathways_per_chemical (λ p l. line_agrees j i p m h))

  lines_agree : all_faulty capped site' sources scenario.receptors.list scenario.receptors.count ≡ lines_faulty capped scenario
  unfolding all_faulty lines_faulty over_lines receptor_in
  lines_agree =
      chained_same (λ j. faulty_worked capped site' sources j (receptor_in scenario j).values (j * per_receptor sources.count))
      (λ j. chained (λ i. chained (faults j i) pathways_per_chemical) scenario.chemicals.count) scenario.receptors.count (λ j h. receptor_agrees j h)

-- ---- the counts
module _ (scenario : Scenario) where
  -- what is told by a list of conditions, and what the cells hold then
  abbrev pub Told : List Condition → Status → List ℕ → Type 0
  Told conditions s cells = (s ≡ first conditions) × (cells ≡ cells_for s scenario)

  stops_first : (conditions : List Condition) (s : Status) (halt : Stop) → s ≡ Err halt → s ≡ first conditions → (cells : List ℕ) → cells ≡ no_cells → Told conditions s cells
  unfolding cells_for
  stops_first conditions s halt stop is_first cells none = (is_first, none ∙ sym (ap (λ (t : Status). cells_for t scenario) stop))

  -- as they are worked
  module _ (capped : Bool) where
    -- 53: the site lacks a value
    pub site_stops : lacks Ordinary OfSite scenario.site ≡ true → (cells : List ℕ) → cells ≡ no_cells → Told (worked_by capped scenario) (stopped 53 0 0) cells
    unfolding worked_by unmade first
    site_stops h cells none = stops_first (worked_by capped scenario) (stopped 53 0 0) _ refl (rw h refl) cells none

    module _ (few_chemicals : scenario.chemicals.count ≤ max_chemicals) (whole : lacks Ordinary OfSite scenario.site ≡ false) (site' : Site) (at_site : site' ≡ site_of scenario.site) where
      conditions_are : first (worked_by capped scenario) ≡ or_else (first (chained (no_media_at scenario) scenario.chemicals.count)) (first (lines_faulty capped scenario))
      unfolding worked_by unmade first
      conditions_are = rw whole (first_append (chained (no_media_at scenario) scenario.chemicals.count) (lines_faulty capped scenario))

      chemicals_agree : chained (refused_source site'.values scenario.receptors scenario.chemicals.records) scenario.chemicals.count ≡ chained (no_media_at scenario) scenario.chemicals.count
      unfolding refused_source stops_with no_media_at ground_with ground_for mean_for chemical_in receptor_in site_of
      chemicals_agree =
          chained_same (refused_source site'.values scenario.receptors scenario.chemicals.records) (no_media_at scenario) scenario.chemicals.count
          (λ i h. ap (λ (v : Site). refused_source v.values scenario.receptors scenario.chemicals.records i) at_site)

      -- 53 by chemical
      pub chemical_stops : (s : Status) → s ≡ first (chained (refused_source site'.values scenario.receptors scenario.chemicals.records) scenario.chemicals.count) → (halt : Stop)
          → s ≡ Err halt → (cells : List ℕ) → cells ≡ no_cells → Told (worked_by capped scenario) s cells
      unfolding or_else
      chemical_stops s is_first halt stop cells none =
          let here : first (chained (no_media_at scenario) scenario.chemicals.count) ≡ Err halt = sym (is_first ∙ ap first chemicals_agree) ∙ stop in
          stops_first (worked_by capped scenario) s halt stop (stop ∙ sym (conditions_are ∙ ap (λ (t : Status). or_else t (first (lines_faulty capped scenario))) here)) cells none

      module _ (sources : Sources) (sources_are : sources ≡ sources_of site'.values scenario.receptors scenario.chemicals)
          (ready : first (chained (refused_source site'.values scenario.receptors scenario.chemicals.records) scenario.chemicals.count) ≡ passed) where
        pub sources_few : sources.count ≤ max_chemicals
        unfolding sources_of
        sources_few = rw sources_are few_chemicals

        none : first (chained (no_media_at scenario) scenario.chemicals.count) ≡ passed
        none = sym (ap first chemicals_agree) ∙ ready

        module _ (s : Status) (is_first : s ≡ first (all_faulty capped site' sources scenario.receptors.list scenario.receptors.count)) where
          fault_first : s ≡ first (worked_by capped scenario)
          unfolding or_else
          fault_first =
              is_first
              ∙ ap first (lines_agree scenario site' sources capped at_site sources_are none)
              ∙ sym (conditions_are ∙ ap (λ (t : Status). or_else t (first (lines_faulty capped scenario))) none)

          -- 53 or 42 by line
          pub line_stops : (halt : Stop) → s ≡ Err halt → (cells : List ℕ) → cells ≡ no_cells → Told (worked_by capped scenario) s cells
          line_stops halt stop cells none = stops_first (worked_by capped scenario) s halt stop fault_first cells none

          -- every line's counts
          pub all_counted : s ≡ passed → (cells : List ℕ) → length cells ≡ all_cells
              → CellsFilled site' sources scenario.receptors.list scenario.receptors.count cells × ZeroFrom (receptor_cells * scenario.receptors.count) cells
              → Told (worked_by capped scenario) s cells
          unfolding cells_for
          all_counted read cells long held =
              let c : cells ≡ cells_of scenario =
              filled_cells scenario site' sources cells (count_is scenario site' sources capped at_site sources_are none) (columns_agree scenario site' sources capped at_site sources_are none) held.0 held.1 long in
              (fault_first, c ∙ sym (ap (λ (t : Status). cells_for t scenario) read))

  -- ---- every 53 before 42
  turn : Status
  turn = first (lines_faulty true scenario)

  mixed : Mixed turn (first (refused_lines scenario)) (first (large_lines scenario))
  unfolding turn lines_faulty refused_lines large_lines line_refused line_too_large
  mixed =
      mixed_lines scenario (report_line scenario) (λ j i p. unworked Hazard scenario j i (pathway_at p) || unworked Cancer scenario j i (pathway_at p))
      (λ j i p. over_cap Hazard scenario j i (pathway_at p) || over_cap Cancer scenario j i (pathway_at p))

  unmade_number : (halt : Stop) → first (unmade scenario) ≡ Err halt → halt.number ≢ 42
  unfolding told_of
  unmade_number halt e h = told_without 42 (λ z. omega arith) (unmade scenario) (unmade_without 42 (λ z. omega arith) scenario) (ap (λ (s : Status). (told_of s).number) e ∙ h)

  capped_is : first (worked_by true scenario) ≡ or_else (first (unmade scenario)) turn
  unfolding worked_by turn
  capped_is = first_append (unmade scenario) (lines_faulty true scenario)

  uncapped_is : first (worked_by false scenario) ≡ or_else (first (unmade scenario)) (first (refused_lines scenario))
  unfolding worked_by lines_faulty refused_lines line_refused first
  uncapped_is = first_append (unmade scenario) (lines_faulty false scenario) ∙ ap (or_else (first (unmade scenario))) (lines_same scenario _ (line_refused scenario) (λ j i p a b c. refl))

  strictly_is : first (strictly scenario) ≡ or_else (first (unmade scenario)) (or_else (first (refused_lines scenario)) (first (large_lines scenario)))
  unfolding strictly
  strictly_is = first_append (unmade scenario) (refused_lines scenario ++ large_lines scenario) ∙ ap (or_else (first (unmade scenario))) (first_append (refused_lines scenario) (large_lines scenario))

  module _ (s : Status) (cells : List ℕ) (told : Told (worked_by true scenario) s cells) where
    at_once : or_else (first (unmade scenario)) turn ≡ s
    at_once = sym (told.0 ∙ capped_is)

    pub strict_passed : s ≡ passed → Told (strictly scenario) s cells
    strict_passed e =
        (e ∙ sym (strictly_is ∙ strict_passes (first (unmade scenario)) turn (first (refused_lines scenario)) (first (large_lines scenario)) mixed unmade_number (at_once ∙ e)), told.1)

    pub strict_stopped : (halt : Stop) → s ≡ Err halt → halt.number ≢ 42 → Told (strictly scenario) s cells
    strict_stopped halt e d =
        (sym (strictly_is ∙ strict_other (first (unmade scenario)) turn (first (refused_lines scenario)) (first (large_lines scenario)) mixed unmade_number halt (at_once ∙ e) d ∙ at_once), told.1)

    -- the cells are as before
    pub cells_cleared : (halt : Stop) → s ≡ Err halt → cells ≡ no_cells
    unfolding cells_for
    cells_cleared halt e = told.1 ∙ ap (λ (t : Status). cells_for t scenario) e

    module _ (halt : Stop) (e : s ≡ Err halt) (large : halt.number ≡ 42) (u : Status) (again : u ≡ first (worked_by false scenario)) (after : List ℕ) (cleared : after ≡ no_cells) where
      s_large : or_else (first (unmade scenario)) turn ≡ stopped 42 halt.line halt.field
      s_large = at_once ∙ e ∙ ap (λ (n : ℕ). stopped n halt.line halt.field) large

      u_is : or_else (first (unmade scenario)) (first (refused_lines scenario)) ≡ u
      u_is = sym (again ∙ uncapped_is)

      pub strict_broken : (other : Stop) → u ≡ Err other → Told (strictly scenario) u after
      strict_broken other d =
          stops_first (strictly scenario) u other d
          (sym (strictly_is ∙ strict_refused (first (unmade scenario)) turn (first (refused_lines scenario)) (first (large_lines scenario)) mixed unmade_number halt.line halt.field s_large other (u_is ∙ d) ∙ u_is)) after cleared

      pub strict_capped : u ≡ passed → (t : Status) → t ≡ s → Told (strictly scenario) t after
      strict_capped d t same =
          stops_first (strictly scenario) t halt (same ∙ e)
          (same ∙ sym (strictly_is ∙ strict_large (first (unmade scenario)) turn (first (refused_lines scenario)) (first (large_lines scenario)) mixed unmade_number halt.line halt.field s_large (u_is ∙ d) ∙ at_once)) after cleared

  -- ---- the calls: what is told, and the cells
  abbrev pub Called : List Condition → Status → List ℕ → Type 0
  Called conditions s cells = (s ≡ first conditions) × (cells ≡ cells_for (first conditions) scenario)

  called : (conditions : List Condition) (s : Status) (cells : List ℕ) → Told conditions s cells → Called conditions s cells
  called conditions s cells t = (t.0, t.1 ∙ ap (λ (u : Status). cells_for u scenario) t.0)

  -- on memory: where the number alone is told
  module _ (v : Verdict) (told : v ≡ verdict_of (first (scenario_conditions scenario))) where
    pub verdict_stops : (r : Refusal) → v ≡ Err r → stopped r.0 0 0 ≡ first (scenario_conditions scenario)
    unfolding scenario_conditions
    verdict_stops r e =
        sym (told_alone (scenario_conditions scenario) (memory_nowhere Ordinary scenario.site scenario.chemicals (ids_of scenario.receptors)) r.0 (sym told ∙ e))

    pub verdict_passes : v ≡ accepted → passed ≡ first (scenario_conditions scenario)
    verdict_passes e = sym (verdict_passed (first (scenario_conditions scenario)) (sym told ∙ e))

  pub memory_stops : (s : Status) → s ≡ first (scenario_conditions scenario) → (halt : Stop) → s ≡ Err halt → (cells : List ℕ) → cells ≡ no_cells → Called (sheet_conditions scenario) s cells
  unfolding sheet_conditions refusals strictly or_else
  memory_stops s is_first halt stop cells none =
      called (sheet_conditions scenario) s cells
      (stops_first (sheet_conditions scenario) s halt stop
      (stop ∙ sym (first_append (scenario_conditions scenario) _ ∙ ap (λ (t : Status). or_else t (first (at 53 0 0 (unpaired_in scenario.site scenario.chemicals) ∷ strictly scenario))) (sym is_first ∙ stop))) cells none)

  module _ (s : Status) (is_first : s ≡ first (scenario_conditions scenario)) (passes : s ≡ passed) where
    rest_is : first (sheet_conditions scenario) ≡ first (at 53 0 0 (unpaired_in scenario.site scenario.chemicals) ∷ strictly scenario)
    unfolding sheet_conditions refusals or_else strictly
    rest_is = first_append (scenario_conditions scenario) _ ∙ ap (λ (t : Status). or_else t (first (at 53 0 0 (unpaired_in scenario.site scenario.chemicals) ∷ strictly scenario))) (sym is_first ∙ passes)

    -- there is room for its records
    pub room_in_memory : (scenario.chemicals.count ≤ max_chemicals) × (scenario.receptors.count ≤ most_receptors)
    unfolding scenario_conditions memory_conditions ids_of
    room_in_memory =
        let counts = (first_read _ _ (sym is_first ∙ passes)).0 in
        let t = counts_inside Ordinary scenario.chemicals.count scenario.receptors.count counts in
        (t.1, t.3)

    pub unpaired_stops : unpaired_in scenario.site scenario.chemicals ≡ true → (cells : List ℕ) → cells ≡ no_cells → Called (sheet_conditions scenario) (stopped 53 0 0) cells
    unfolding first
    unpaired_stops h cells none =
        called (sheet_conditions scenario) (stopped 53 0 0) cells (stops_first (sheet_conditions scenario) (stopped 53 0 0) _ refl (sym (rest_is ∙ rw h refl)) cells none)

    pub counted_strictly : unpaired_in scenario.site scenario.chemicals ≡ false → (t : Status) (cells : List ℕ) → Told (strictly scenario) t cells → Called (sheet_conditions scenario) t cells
    unfolding first
    counted_strictly h t cells told = called (sheet_conditions scenario) t cells (told.0 ∙ sym (rest_is ∙ rw h refl), told.1)

  -- as entered: 21
  pub miscount : miscounted scenario ≡ true → (cells : List ℕ) → cells ≡ no_cells → Called (entered_conditions scenario) (stopped 21 0 0) cells
  unfolding entered_conditions first
  miscount h cells none = called (entered_conditions scenario) (stopped 21 0 0) cells (stops_first (entered_conditions scenario) (stopped 21 0 0) _ refl (rw h refl) cells none)

  module _ (counts : miscounted scenario ≡ false) where
    pub room_entered : (scenario.chemicals.count ≤ max_chemicals) × (scenario.receptors.count ≤ most_receptors)
    unfolding miscounted
    room_entered = let t = counts_inside Ordinary scenario.chemicals.count scenario.receptors.count counts in (t.1, t.3)

    -- 33
    pub other_year : no_guidance scenario ≡ true → (cells : List ℕ) → cells ≡ no_cells → Called (entered_conditions scenario) (stopped 33 0 0) cells
    unfolding entered_conditions first
    other_year h cells none = called (entered_conditions scenario) (stopped 33 0 0) cells (stops_first (entered_conditions scenario) (stopped 33 0 0) _ refl (rw (counts, h) refl) cells none)

    pub counted_entered : no_guidance scenario ≡ false → (t : Status) (cells : List ℕ) → Told (worked_by true scenario) t cells → Called (entered_conditions scenario) t cells
    unfolding entered_conditions worked_by lines_faulty faulty_lines line_too_large first
    counted_entered h t cells told = called (entered_conditions scenario) t cells (told.0 ∙ sym (rw (counts, h) refl), told.1)

  -- by whether its values were tested
  pub by_test : (tested b : Bool) → tested ≡ b → (s : Status) (cells : List ℕ) → Called (conditions_by b scenario) s cells → (s ≡ status_by tested scenario) × (cells ≡ cells_by tested scenario)
  unfolding status_by cells_by
  by_test tested b e s cells t =
      (t.0 ∙ ap (λ (x : Bool). first (conditions_by x scenario)) (sym e), t.1 ∙ ap (λ (x : Bool). cells_for (first (conditions_by x scenario)) scenario) (sym e))
