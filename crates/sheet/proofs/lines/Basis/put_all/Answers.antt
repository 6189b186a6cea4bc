-- `sheet::lines::put_all` meets its contract. The invariant: no line so far stops, and where all cells were 0, they hold
-- the lines of the receptors so far and 0 for the others. Assumes nothing.
use Rattle.std.proofs.lemmas.Result.{err_from_is_err_and}
use Rattle.std.specs.Prelude.{Err}
use mathlib.Core.Path.{ap, ◌≡◌, refl, sym, ◌∙◌}
use Prim.Native.Nat.{◌+◌, ◌*◌, ◌≤◌, ◌<◌}
use native.Mathlib.Nat.{mul-le-mul_right, not-suc-le-zero}
use native.Mathlib.Omega.{arith}
use lib.ListN.{length}
use Rattle.sizes.specs.Sizes.{most_receptors, pathways_per_chemical}
use Rattle.cases.specs.Conditions.{first}
use Rattle.cases.proofs.FirstMet.{never}
use Rattle.lists.specs.Lists.{chained}
use Rattle.sheet.specs.Inner.{all_faulty}
use Rattle.sheet.proofs.ReceptorLaws.{receptor_is, fault_on, fault_stops}
use Rattle.sheet.proofs.CellLaws.{receptor_held}
use Rattle.sheet.proofs.lines.Basis.put_all.Goals as goal

pub loop-j-init : goal.loop-j-init
unfolding all_faulty chained first
loop-j-init c = (refl, refl, λ z. (λ j h. absurd (not-suc-le-zero h), λ k h. z k (omega arith)))

pub overflow_mul-j-in-loop-j : goal.overflow_mul-j-in-loop-j
overflow_mul-j-in-loop-j c =
    let s = c in
    let most : c.loop-j.j ≤ 3 = omega (arith, c.loop-j-test.true, s.requires) in
    record { fits = omega (arith, s.requires, mul-le-mul_right (s.args.self.now.sources.now.count * pathways_per_chemical + 1) most) }

pub put_lines-requires : goal.put_lines-requires
put_lines-requires c =
    let s = c in
    let l = c.loop-j in
    let most : l.j ≤ 3 = omega (arith, c.loop-j-test.true, s.requires) in
    (omega (arith, l.invariant.0), s.requires.1, omega (arith, s.requires, mul-le-mul_right (s.args.self.now.sources.now.count * pathways_per_chemical + 1) most), omega arith)

pub returns-in_err-put_lines : goal.returns-in_err-put_lines
returns-in_err-put_lines c =
    let s = c in
    let l = c.loop-j in
    let long : length s.args.self.now.receptors.now.list ≡ most_receptors = omega arith in
    let test = c.loop-j-test.true in
    let here : l.j < length s.args.self.now.receptors.now.list = omega (arith, test, s.requires) in
    let stop = c.in_err-put_lines.was in
    let p = err_from_is_err_and c.from_residual.result c.from_residual.ensures.1 in record { value = rw (p.1, p.2) (sym stop ∙ fault_stops s.args.self.now.capped s.args.self.now.site s.args.self.now.sources.now s.args.self.now.receptors.now.list _ l.j here _ refl _ c.put_lines.ensures.value l.invariant.1 s.args.self.now.receptors.now.count test _ stop); cells_filled = λ e. absurd (never _ _ (p.1 ∙ ap Err p.2) e) }

pub loop-j-preserved : goal.loop-j-preserved
loop-j-preserved c =
    let s = c in
    let l = c.loop-j in
    let long : length s.args.self.now.receptors.now.list ≡ most_receptors = omega arith in
    let test = c.loop-j-test.true in
    let here : l.j < length s.args.self.now.receptors.now.list = omega (arith, test, s.requires) in
    let read = c.in_ok-put_lines.was in
    let lines = c.put_lines in (
      lines.auto.cells ∙ l.invariant.0,
      fault_on s.args.self.now.capped s.args.self.now.site s.args.self.now.sources.now s.args.self.now.receptors.now.list _ l.j here _ refl _ lines.ensures.value l.invariant.1 read,
      λ z.
          let kept = l.invariant.2 z in
          let left = lines.ensures.cells_empty kept.1 in (
            receptor_held s.args.self.now.site s.args.self.now.sources.now s.args.self.now.receptors.now.list l.j l.cells lines.new.cells s.requires.1 _
                (receptor_is s.args.self.now.capped s.args.self.now.site s.args.self.now.sources.now s.args.self.now.receptors.now.list _ l.j here _ refl) kept.0 lines.ensures.same_below (lines.ensures.cells_hold read) left.0,
            λ k h. left.1 k (omega arith),
          ),
    )

pub returns : goal.returns
returns c =
    let l = c.loop-j in
    let all : l.j ≡ c.args.self.now.receptors.now.count = omega (arith, c.loop-j-test.false) in
    record { value = sym (rw all at l.invariant.1); cells_filled = λ _. rw all at l.invariant.2 }
