-- The totals of the first lines, where the cells are held. Assumes nothing.
use borrow.Author.Rules.{rules}
use borrow.Author.Tests.{le-ltb, lt-ltb}
use mathlib.Core.Path.{sym, ap, ◌∙◌}
use Prim.Native.Nat.{ℕ, suc, ◌<◌}
use native.Mathlib.Omega.{arith}
use Rattle.sizes.specs.Sizes.{most_lines}
use Rattle.sheet.specs.Counts.{total_found, total_in}
use Rattle.sheet.proofs.TotalsTold.{started, not_started}
use Rattle.sheet.proofs.total.Goals as goal

pub returns-in_err-start : goal.returns-in_err-start
unfolding total_in
returns-in_err-start c = simp (not_started _ _ _ (sym c.in_err-start.was ∙ c.column_start.ensures)) (search rules)

pub returns-then-lines-gt-MOST_LINES : goal.returns-then-lines-gt-MOST_LINES
unfolding total_in
returns-then-lines-gt-MOST_LINES c =
    let s = started _ _ _ _ (sym c.in_ok-start.was ∙ c.column_start.ensures) in
    simp (s.held, le-ltb _ _ c.if-lines-gt-MOST_LINES.true)

pub total_found-requires : goal.total_found-requires
total_found-requires c =
    let s = started _ _ _ _ (sym c.in_ok-start.was ∙ c.column_start.ensures) in
    (omega arith, omega (arith, s.room, s.long))

pub returns : goal.returns
unfolding total_in
returns c =
    let s = started _ _ _ _ (sym c.in_ok-start.was ∙ c.column_start.ensures) in
    let few : c.args.lines < suc most_lines = omega (arith, c.if-lines-gt-MOST_LINES.false) in
    simp (s.held, lt-ltb _ _ few) (c.total_found.ensures ∙ ap (λ (k : ℕ). total_found c.args.cells.now k c.args.lines) s.place)
