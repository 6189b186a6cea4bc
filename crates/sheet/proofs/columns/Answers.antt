-- A line's columns, where the cells are held. Assumes nothing.
use borrow.Author.Rules.{rules}
use borrow.Author.Tests.{le-ltb, lt-ltb}
use mathlib.Core.Path.{sym, ap, ◌∙◌}
use Prim.Native.Nat.{ℕ, ◌+◌}
use native.Mathlib.Omega.{arith}
use Rattle.sheet.specs.Counts.{columns_found, columns_in}
use Rattle.sheet.proofs.TotalsTold.{started, not_started}
use Rattle.sheet.proofs.columns.Goals as goal

pub returns-in_err-start : goal.returns-in_err-start
unfolding columns_in
returns-in_err-start c = simp (not_started _ _ _ (sym c.in_err-start.was ∙ c.column_start.ensures)) (search rules)

pub returns-then-line-ge-MOST_LINES : goal.returns-then-line-ge-MOST_LINES
unfolding columns_in
returns-then-line-ge-MOST_LINES c =
    let s = started _ _ _ _ (sym c.in_ok-start.was ∙ c.column_start.ensures) in
    simp (s.held, le-ltb _ _ c.if-line-ge-MOST_LINES.true)

pub columns_found-requires : goal.columns_found-requires
columns_found-requires c =
    let s = started _ _ _ _ (sym c.in_ok-start.was ∙ c.column_start.ensures) in
    omega (arith, s.room, s.long, c.if-line-ge-MOST_LINES.false)

pub returns : goal.returns
unfolding columns_in
returns c =
    let s = started _ _ _ _ (sym c.in_ok-start.was ∙ c.column_start.ensures) in
    simp (s.held, lt-ltb _ _ c.if-line-ge-MOST_LINES.false) (c.columns_found.ensures ∙ ap (λ (k : ℕ). columns_found c.args.cells.now (k + c.args.line)) s.place)
