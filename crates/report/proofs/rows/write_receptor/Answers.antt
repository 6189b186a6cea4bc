-- `report::rows::write_receptor` meets its contract. The loop's invariant: the part is the lines so far and what it held past them.
-- Assumes nothing.
use mathlib.Core.Path.{◌≡◌, refl, sym, ◌∙◌}
use mathlib.Core.List.{◌++◌}
use Prim.Native.Nat.{◌+◌, ◌*◌, ◌-◌, ◌/◌, ◌≤◌, ◌<◌}
use native.Mathlib.Omega.{arith}
use borrow.Author.Rules.{rules}
use borrow.Rule.Slice.PartMut.{mid_len, same_len_mid}
use lib.ListN.{length, drop, length-map}
use Rattle.sizes.specs.Sizes.{max_chemicals, pathways_per_chemical}
use Rattle.text.specs.Text.{lines_text, report_line_width}
use Rattle.lists.specs.Lists.{chained}
use Rattle.report.specs.Inner.{lines_in}
use Rattle.report.proofs.Written.{line_more, total_more}
use Rattle.report.proofs.rows.write_receptor.Goals as goal

pub loop-q-init : goal.loop-q-init
unfolding chained lines_text lines_in
loop-q-init c = (refl, refl)

pub loop-q-preserved : goal.loop-q-preserved
loop-q-preserved c =
    let s = c in
    let l = c.loop-q in
    let test = c.loop-q-test.true in
    let long : length s.args.chemicals.now.records ≡ max_chemicals = omega arith in
    let here : l.q / pathways_per_chemical < length s.args.chemicals.now.records = omega (arith, test, s.requires) in
    let past : report_line_width * l.q + report_line_width ≤ length l.part = omega (arith, test, l.invariant.0, s.requires) in
    let cut : report_line_width * l.q + report_line_width - report_line_width * l.q ≡ report_line_width = omega arith in
    let wide = mid_len (report_line_width * l.q) (report_line_width * l.q + report_line_width) l.part past ∙ cut in
    let row = c.put_row in (
      same_len_mid (report_line_width * l.q) (report_line_width * l.q + report_line_width - report_line_width * l.q) l.part row.new.line row.auto.line ∙ l.invariant.0,
      line_more s.args.cells.now s.args.receptor s.args.id s.args.chemicals.now _ s.args.part.now l.part _ row.new.line l.q _ here c.row_of-row.ensures wide row.ensures.line_after l.invariant.1,
    )

pub shape_of-part : goal.shape_of-part
shape_of-part c =
    let l = c.loop-q in
    let n = c.args.chemicals.now.count * pathways_per_chemical in
    let row = c.put_row-2 in
    same_len_mid (report_line_width * n) (report_line_width * n + report_line_width - report_line_width * n) l.part row.new.line row.auto.line ∙ l.invariant.0

pub returns : goal.returns
returns c =
    let s = c in
    let l = c.loop-q in
    let all : l.q ≡ s.args.chemicals.now.count * pathways_per_chemical = omega (arith, c.loop-q-test.false) in
    let row = c.put_row-2 in
    let n = s.args.chemicals.now.count * pathways_per_chemical in
    let past : report_line_width * n + report_line_width ≤ length l.part = omega (arith, l.invariant.0, s.requires) in
    let cut : report_line_width * n + report_line_width - report_line_width * n ≡ report_line_width = omega arith in
    let wide = mid_len (report_line_width * n) (report_line_width * n + report_line_width) l.part past ∙ cut in
    total_more s.args.cells.now s.args.receptor s.args.id s.args.chemicals.now s.args.part.now l.part _ row.new.line n _ refl s.requires.part_len c.total_row-row.ensures wide row.ensures.line_after (rw all at l.invariant.1)
