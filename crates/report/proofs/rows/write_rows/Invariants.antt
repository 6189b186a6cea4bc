-- `report::rows::write_rows` meets its contract. The loop's invariant: the buffer is the lines of the receptors so far and what it held past
-- them. Assumes nothing.
use mathlib.Core.Path.{◌≡◌, refl, sym, ap, ◌∙◌}
use mathlib.Core.List.{◌++◌}
use Prim.Native.Nat.{ℕ, ◌+◌, ◌*◌, ◌-◌, ◌≤◌, ◌<◌}
use native.Mathlib.Nat.{mul-zero}
use native.Mathlib.Omega.{arith}
use borrow.Author.Rules.{rules}
use borrow.Rule.Slice.PartMut.{mid_len, same_len_mid}
use lib.ListN.{length, drop, length-map}
use Rattle.sizes.specs.Sizes.{most_receptors, pathways_per_chemical}
use Rattle.text.specs.Text.{lines_text, report_line_width}
use Rattle.lists.specs.Lists.{chained}
use Rattle.report.specs.Inner.{report_in}
use Rattle.report.proofs.Written.{within, receptor_more}
use Rattle.report.proofs.rows.write_rows.Given as goal

abbrev pub invariant-loop-j : goal.invariant-loop-j
invariant-loop-j l =
    (length l.out ≡ length l.initial.out)
    × (l.out ≡ lines_text (report_in l.cells l.scenario.chemicals l.scenario.receptors.list l.j) ++ drop (l.width * l.j) l.initial.out)
