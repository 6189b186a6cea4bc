-- `sheet::lines::put_lines` meets its contract. The invariant: the cells hold the lines of the chemicals so far, none of which stops, the cells
-- below are as they were, and the others stay 0. Assumes nothing.
use Rattle.std.proofs.lemmas.Result.{err_from_is_err_and}
use Rattle.std.specs.Prelude.{Err}
use mathlib.Core.Path.{◌≡◌, refl, sym, ap, ◌∙◌}
use Prim.Native.Nat.{◌+◌, ◌*◌, ◌<◌}
use native.Mathlib.Nat.{not-suc-le-zero}
use native.Mathlib.Omega.{arith}
use lib.ListN.{length}
use Rattle.sizes.specs.Sizes.{max_chemicals, pathways_per_chemical}
use Rattle.cases.specs.Conditions.{first}
use Rattle.cases.proofs.FirstMet.{never}
use Rattle.lists.specs.Lists.{chained}
use Rattle.sheet.specs.Counts.{cell_of}
use Rattle.sheet.specs.Inner.{columns_worked, faulty_worked, CellsHold}
use Rattle.sheet.proofs.ReceptorLaws.{lines_are, chemical_on, chemical_stops}
use Rattle.sheet.proofs.CellLaws.{chemical_below, chemical_empty, chemical_zero, chemical_held}
use Rattle.sheet.proofs.lines.Basis.put_lines.Goals as goal

pub loop-i-init : goal.loop-i-init
unfolding chained first
loop-i-init c = (refl, λ e w q h. absurd (not-suc-le-zero h), λ k h. refl, refl, λ z. (λ e w q h l. z _ (omega arith), λ k h. z k (omega arith)))

pub returns-in_err-put_chemical : goal.returns-in_err-put_chemical
returns-in_err-put_chemical c =
    let s = c in
    let a = s.args in
    let l = c.loop-i in
    let test = c.loop-i-test.true in
    let long : length a.self.now.sources.now.list ≡ max_chemicals = omega arith in
    let here : l.i < length a.self.now.sources.now.list = omega (arith, test, s.requires) in
    let few : l.i < max_chemicals = omega (arith, test, s.requires) in
    let put = c.put_chemical in
    let same = put.ensures.same_but in
    let stop = c.in_err-put_chemical.was in
    let p = err_from_is_err_and c.from_residual.result c.from_residual.ensures.1 in record {
      value = rw (p.1, p.2) (sym stop ∙ chemical_stops a.self.now.capped a.self.now.site a.place a.receptor a.self.now.sources.now _ l.i here a.before put.result put.ensures.value l.invariant.3 test _ stop);
      cells_hold = λ e. absurd (never _ _ (p.1 ∙ ap Err p.2) e);
      same_below = chemical_below a.base l.i l.cells put.new.cells few same a.cells.now l.invariant.2;
      cells_empty = λ z.
          let kept = l.invariant.4 z in (
            chemical_empty a.base l.i l.cells put.new.cells few same (a.self.now.sources.now.count * pathways_per_chemical) (omega (arith, test)) kept.0,
            chemical_zero a.base l.i l.cells put.new.cells few same kept.1,
          );
    }

pub loop-i-preserved : goal.loop-i-preserved
loop-i-preserved c =
    let s = c in
    let a = s.args in
    let l = c.loop-i in
    let test = c.loop-i-test.true in
    let long : length a.self.now.sources.now.list ≡ max_chemicals = omega arith in
    let here : l.i < length a.self.now.sources.now.list = omega (arith, test, s.requires) in
    let few : l.i < max_chemicals = omega (arith, test, s.requires) in
    let put = c.put_chemical in
    let same = put.ensures.same_but in
    let read = c.in_ok-put_chemical.was in
    let columns = columns_worked a.self.now.site a.self.now.sources.now a.place a.receptor in
    let filled : CellsHold (λ p. columns (l.i * pathways_per_chemical + p)) pathways_per_chemical put.new.cells (a.base + l.i * pathways_per_chemical) =
    λ e w p h. put.ensures.cells_hold read e w p h ∙ ap (cell_of w) (lines_are a.self.now.capped a.self.now.site a.place a.receptor a.self.now.sources.now _ l.i here p h e)
    in (
      put.auto.cells ∙ l.invariant.0,
      chemical_held a.base l.i l.cells put.new.cells few same columns l.invariant.1 filled,
      chemical_below a.base l.i l.cells put.new.cells few same a.cells.now l.invariant.2,
      chemical_on a.self.now.capped a.self.now.site a.place a.receptor a.self.now.sources.now _ l.i here a.before put.result put.ensures.value l.invariant.3 read,
      λ z.
          let kept = l.invariant.4 z in (
            chemical_empty a.base l.i l.cells put.new.cells few same ((l.i + 1) * pathways_per_chemical) (omega arith) kept.0,
            chemical_zero a.base l.i l.cells put.new.cells few same kept.1,
          ),
    )

pub shape_of-cells : goal.shape_of-cells
shape_of-cells c = c.loop-i.invariant.0

pub returns : goal.returns
unfolding faulty_worked
returns c =
    let s = c in
    let l = c.loop-i in
    let all : l.i ≡ s.args.self.now.sources.now.count = omega arith in
    record { value = sym (rw all at l.invariant.3); cells_hold = λ _. rw all at l.invariant.1; same_below = l.invariant.2; cells_empty = rw all at l.invariant.4 }
