-- `sheet::work` meets its contract: 53 by site and by chemical, then each line in turn, or every line's counts. Assumes nothing.
use mathlib.Core.List.{List}
use Prim.Native.Nat.{ℕ}
use lib.ListN.{replicate}
use Rattle.std.specs.Prelude.{Result, Ok, Err}
use Rattle.sizes.specs.Sizes.{max_chemicals}
use Rattle.lists.specs.Lists.{chained}
use Rattle.equations.specs.declared.Values.{Values}
use Rattle.cases.specs.declared.Chemicals.{Chemicals}
use Rattle.cases.specs.Conditions.{Status, passed, first}
use Rattle.scenario.specs.declared.Receptors.{Receptors}
use Rattle.sheet.specs.declared.Source.{Source}
use Rattle.sheet.specs.declared.Sources.{Sources}
use mathlib.Core.Path.{◌≡◌, refl, sym, ap, subst, ◌∙◌}
use Rattle.lists.proofs.Tabulated.{all_alike}
use Rattle.sheet.specs.Counts.{no_cells, all_cells, cells_for}
use Rattle.sheet.specs.Inner.{refused_source, sources_of, SourcesTold, ZeroFrom}
use Rattle.sheet.proofs.CellLaws.{zeros}
use Rattle.sheet.proofs.CountLaws.{site_stops, chemical_stops, line_stops, all_counted}
use Rattle.sheet.proofs.work.Goals as goal

pub returns-then-lacks : goal.returns-then-lacks
returns-then-lacks c =
    let s = c in
    let a = s.args in
    let r = site_stops a.scenario.now a.capped (sym c.lacks.ensures ∙ c.if-lacks.true) _ s.requires.2 in
    record { value = rw c.at.ensures r.0; cells_after = rw c.at.ensures r.1 }

pub returns-in-Err : goal.returns-in-Err
unfolding SourcesTold
returns-in-Err c =
    let s = c in
    let a = s.args in
    let r = chemical_stops a.scenario.now a.capped s.requires.0 (sym c.lacks.ensures ∙ c.if-lacks.false) _ c.site_of-site.ensures _ (sym c.in-Err.ensures) _ refl _ s.requires.2 in
    record { value = rw c.at-in-Err.ensures r.0; cells_after = rw c.at-in-Err.ensures r.1 }

pub sources_of-requires : goal.sources_of-requires
sources_of-requires c = (c.requires.0, c.requires.1, ap (replicate max_chemicals) c.no_source-list.ensures)

pub put_all-status-requires : goal.put_all-status-requires
unfolding SourcesTold
put_all-status-requires c = (c.requires.1, c.requires.0)

told : (site' : Values) (receptors' : Receptors) (chemicals' : Chemicals) (r : Result (Unit {0}) ℕ) (list' : List Source) → SourcesTold site' receptors' chemicals' list' r → (d : Unit {0}) → r ≡ Ok d
    → (first (chained (refused_source site' receptors' chemicals'.records) chemicals'.count) ≡ passed) × (◌≡◌ {A = Sources} (record { count = chemicals'.count; list = list' }) (sources_of site' receptors' chemicals'))
unfolding SourcesTold sources_of
told site' receptors' chemicals' (Ok d') list' h d e = (h.0, ap (λ (x : List Source). record { count = chemicals'.count; list = x }) h.1)
told site' receptors' chemicals' (Err i) list' h d e = absurd cc

pub returns-in-Err-status : goal.returns-in-Err-status
returns-in-Err-status c =
    let a = c.args in
    let made = told c.site_of-site.result.values a.scenario.now.receptors a.scenario.now.chemicals c.sources_of.result c.sources_of.new.list c.sources_of.ensures _ c.in_default.is in
    let r = line_stops a.scenario.now a.capped c.requires.0 (sym c.lacks.ensures ∙ c.if-lacks.false) _ c.site_of-site.ensures _ made.1 made.0
    _ c.put_all-status.ensures.value _ c.in-Err-status.is _ c.clear.ensures in
    record { value = sym c.in-Err-status.is ∙ r.0; cells_after = r.1 ∙ ap (λ (t : Status). cells_for t a.scenario.now) c.in-Err-status.is }

pub returns : goal.returns
unfolding no_cells
returns c =
    let a = c.args in
    let made = told c.site_of-site.result.values a.scenario.now.receptors a.scenario.now.chemicals c.sources_of.result c.sources_of.new.list c.sources_of.ensures _ c.in_default.is in
    let lines = c.put_all-status in
    let done = c.in_default-status.is in
    let r = all_counted a.scenario.now a.capped c.requires.0 (sym c.lacks.ensures ∙ c.if-lacks.false) _ c.site_of-site.ensures _ made.1 made.0
    _ lines.ensures.value done lines.new.cells lines.array_long (lines.ensures.cells_filled done (subst (ZeroFrom 0) (all_alike 0 all_cells ∙ sym c.requires.2) (zeros all_cells))) in
    record { value = sym done ∙ r.0; cells_after = r.1 ∙ ap (λ (t : Status). cells_for t a.scenario.now) done }
