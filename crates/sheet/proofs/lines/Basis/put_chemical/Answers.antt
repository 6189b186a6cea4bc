-- `sheet::lines::put_chemical` meets its contract. The invariant: the cells hold the lines so far, none of which stops, and the cells of other
-- lines are as they were. Assumes nothing.
use Rattle.std.proofs.lemmas.Result.{err_from_is_err_and}
use Rattle.std.specs.Prelude.{Err}
use mathlib.Core.Path.{◌≡◌, refl, sym, ap, subst, ◌∙◌}
use mathlib.Core.List.{List}
use Prim.Native.Nat.{ℕ, ◌+◌, ◌<◌, ◌*◌}
use native.Mathlib.Nat.{not-suc-le-zero}
use native.Mathlib.Omega.{arith}
use lib.ListN.{length}
use Rattle.sheet.specs.Counts.{effect_cells}
use Rattle.sizes.specs.Sizes.{most_lines, most_receptors, pathways_per_chemical}
use Rattle.equations.specs.declared.Effect.TheVariants.{Hazard, Cancer}
use Rattle.pathway.specs.Lines.{figured}
use Rattle.cases.specs.Conditions.{first}
use Rattle.cases.proofs.FirstMet.{never}
use Rattle.lists.specs.Lists.{chained}
use Rattle.sheet.specs.Inner.{figure_for, source_columns, faulty_chemical, with_counts, CellsHold, SameBut}
use Rattle.sheet.proofs.ReceptorLaws.{fault_is, columns_are, line_fits, line_stops}
use Rattle.sheet.proofs.CellLaws.{line_length, line_others, line_held}
use Rattle.sheet.proofs.lines.Basis.put_chemical.Goals as goal

pub loop-p-init : goal.loop-p-init
unfolding chained first
loop-p-init c = (refl, λ e w q h. absurd (not-suc-le-zero h), λ k h. refl, refl)

pub returns-in_err-fault_at : goal.returns-in_err-fault_at
returns-in_err-fault_at c =
    let s = c in
    let l = c.loop-p in
    let test = c.loop-p-test.true in
    let a = s.args in
    let long : length a.source.now.means ≡ most_receptors = omega arith in
    let there : a.place < length a.source.now.means = omega (arith, long, s.requires) in
    let told = fault_is a.self.now.site a.place a.receptor a.source.now _ there _ l.p _ _ s.requires.3 c.pathway_at.ensures c.figures_with-line.ensures a.self.now.capped _ _ c.fault_at.ensures in
    let stop = c.in_err-fault_at.was in
    let p = err_from_is_err_and c.from_residual.result c.from_residual.ensures.1 in record { value = rw (p.1, p.2) (sym stop ∙ line_stops a.self.now.capped a.self.now.site a.place a.receptor a.source.now a.before l.p l.invariant.3 _ told test _ stop); cells_hold = λ e. absurd (never _ _ (p.1 ∙ ap Err p.2) e); same_but = l.invariant.2 }

pub loop-p-preserved : goal.loop-p-preserved
unfolding figured figure_for
loop-p-preserved c =
    let s = c in
    let l = c.loop-p in
    let test = c.loop-p-test.true in
    let a = s.args in
    let long : length a.source.now.means ≡ most_receptors = omega arith in
    let there : a.place < length a.source.now.means = omega (arith, long, s.requires) in
    let way = c.pathway_at.ensures in
    let figures = c.figures_with-line.ensures in
    let told = fault_is a.self.now.site a.place a.receptor a.source.now _ there _ l.p _ _ s.requires.3 way figures a.self.now.capped _ _ c.fault_at.ensures in
    let h = columns_are a.self.now.site a.place a.receptor a.source.now _ there _ l.p _ _ s.requires.3 way figures Hazard _ c.columns_of.ensures in
    let k = columns_are a.self.now.site a.place a.receptor a.source.now _ there _ l.p _ _ s.requires.3 way figures Cancer _ c.columns_of-in-loop-p.ensures in
    let at = a.base + l.p in
    let u = c.columns_of.result in
    let v = c.columns_of-in-loop-p.result in
    let stored = sym (c.put_counts-in-loop-p.ensures ∙ ap (λ (x : List ℕ). with_counts x (at + effect_cells) v) c.put_counts.ensures) in
    let room : at + (effect_cells + 2 * most_lines) < length l.cells = omega (arith, test, l.invariant.0, s.requires.0) in
    let small : l.p < most_lines = omega (arith, test) in (
      subst (λ (x : List ℕ). length x ≡ length a.cells.now) stored (line_length l.cells a.base l.p u v ∙ l.invariant.0),
      subst (λ (x : List ℕ). CellsHold (source_columns a.self.now.site a.place a.receptor a.source.now) (l.p + 1) x a.base) stored
          (line_held l.cells a.base l.p u v small (source_columns a.self.now.site a.place a.receptor a.source.now) room h k l.invariant.1),
      subst (λ (x : List ℕ). SameBut pathways_per_chemical a.base a.cells.now x) stored (line_others l.cells a.base l.p u v pathways_per_chemical a.cells.now test l.invariant.2),
      line_fits a.self.now.capped a.self.now.site a.place a.receptor a.source.now a.before l.p l.invariant.3 _ told c.in_ok-fault_at.was,
    )

pub shape_of-cells : goal.shape_of-cells
shape_of-cells c = c.loop-p.invariant.0

pub returns : goal.returns
unfolding faulty_chemical
returns c =
    let l = c.loop-p in
    let all : l.p ≡ pathways_per_chemical = omega arith in
    record { value = sym (rw all at l.invariant.3); cells_hold = λ _. rw all at l.invariant.1; same_but = l.invariant.2 }
