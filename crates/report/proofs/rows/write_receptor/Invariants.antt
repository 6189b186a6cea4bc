-- `report::rows::write_receptor` meets its contract. The loop's invariant: the part is the lines so far and what it held past them.
-- Assumes nothing.
use mathlib.Core.Path.{◌≡◌, refl, sym, ◌∙◌}
use mathlib.Core.List.{◌++◌}
use Prim.Native.Nat.{◌+◌, ◌*◌, ◌-◌, ◌/◌, ◌≤◌, ◌<◌}
use native.Mathlib.Omega.{arith}
use borrow.Author.Rules.{rules}
use borrow.Rule.Slice.PartMut.{mid_len, same_len_mid}
use lib.ListN.{length, drop, length-map}
use Rattle.sizes.specs.Sizes.{max_chemicals, pathways_per_chemical}
use Rattle.text.specs.Text.{lines_text, report_line_width}
use Rattle.lists.specs.Lists.{chained}
use Rattle.report.specs.Inner.{lines_in}
use Rattle.report.proofs.Written.{line_more, total_more}
use Rattle.report.proofs.rows.write_receptor.Given as goal

abbrev pub invariant-loop-q : goal.invariant-loop-q
invariant-loop-q l =
    (length l.part ≡ length l.initial.part) × (l.part ≡ lines_text (lines_in l.cells l.receptor l.id l.chemicals l.q) ++ drop (report_line_width * l.q) l.initial.part)
