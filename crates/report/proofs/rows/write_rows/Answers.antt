-- `report::rows::write_rows` meets its contract. The loop's invariant: the buffer is the lines of the receptors so far and what it held past
-- them. Assumes nothing.
use mathlib.Core.Path.{◌≡◌, refl, sym, ap, ◌∙◌}
use mathlib.Core.List.{◌++◌}
use Prim.Native.Nat.{ℕ, ◌+◌, ◌*◌, ◌-◌, ◌≤◌, ◌<◌}
use native.Mathlib.Nat.{mul-zero}
use native.Mathlib.Omega.{arith}
use borrow.Author.Rules.{rules}
use borrow.Rule.Slice.PartMut.{mid_len, same_len_mid}
use lib.ListN.{length, drop, length-map}
use Rattle.sizes.specs.Sizes.{most_receptors, pathways_per_chemical}
use Rattle.text.specs.Text.{lines_text, report_line_width}
use Rattle.lists.specs.Lists.{chained}
use Rattle.report.specs.Inner.{report_in}
use Rattle.report.proofs.Written.{within, receptor_more}
use Rattle.report.proofs.rows.write_rows.Goals as goal

pub loop-j-init : goal.loop-j-init
unfolding chained lines_text report_in
loop-j-init c = (refl, rw mul-zero refl)

pub overflow_mul-at : goal.overflow_mul-at
overflow_mul-at c =
    let s = c in
    let l = c.loop-j in
    let width = report_line_width * (s.args.scenario.now.chemicals.count * pathways_per_chemical + 1) in
    let past : width * l.j + width ≤ length l.out = omega (arith, l.invariant.0, s.requires, within s.args.scenario.now.receptors.count l.j s.args.scenario.now.chemicals.count c.loop-j-test.true) in
    record { fits = omega arith }

pub overflow_add-at : goal.overflow_add-at
overflow_add-at c =
    let s = c in
    let l = c.loop-j in
    let width = report_line_width * (s.args.scenario.now.chemicals.count * pathways_per_chemical + 1) in
    let past : width * l.j + width ≤ length l.out = omega (arith, l.invariant.0, s.requires, within s.args.scenario.now.receptors.count l.j s.args.scenario.now.chemicals.count c.loop-j-test.true) in
    record { fits = omega arith }

pub slice_bounds-write_receptor-end : goal.slice_bounds-write_receptor-end
slice_bounds-write_receptor-end c =
    let s = c in
    let l = c.loop-j in
    let width = report_line_width * (s.args.scenario.now.chemicals.count * pathways_per_chemical + 1) in
    let past : width * l.j + width ≤ length l.out = omega (arith, l.invariant.0, s.requires, within s.args.scenario.now.receptors.count l.j s.args.scenario.now.chemicals.count c.loop-j-test.true) in
    past

pub write_receptor-requires : goal.write_receptor-requires
write_receptor-requires c =
    let s = c in
    let l = c.loop-j in
    let width = report_line_width * (s.args.scenario.now.chemicals.count * pathways_per_chemical + 1) in
    let past : width * l.j + width ≤ length l.out = omega (arith, l.invariant.0, s.requires, within s.args.scenario.now.receptors.count l.j s.args.scenario.now.chemicals.count c.loop-j-test.true) in
    let wide : width * l.j + width - width * l.j ≡ width = omega arith in
    record { count_le_max_chemicals = s.requires.count_le_max_chemicals.0; part_len = mid_len (width * l.j) (width * l.j + width) l.out past ∙ wide }

pub loop-j-preserved : goal.loop-j-preserved
loop-j-preserved c =
    let s = c in
    let l = c.loop-j in
    let width = report_line_width * (s.args.scenario.now.chemicals.count * pathways_per_chemical + 1) in
    let past : width * l.j + width ≤ length l.out = omega (arith, l.invariant.0, s.requires, within s.args.scenario.now.receptors.count l.j s.args.scenario.now.chemicals.count c.loop-j-test.true) in
    let long : length s.args.scenario.now.receptors.list ≡ most_receptors = omega arith in
    let here : l.j < length s.args.scenario.now.receptors.list = omega (arith, c.loop-j-test.true, s.requires) in
    let part = c.write_receptor in (
      same_len_mid (width * l.j) (width * l.j + width - width * l.j) l.out part.new.part part.auto.part ∙ l.invariant.0,
      receptor_more s.args.cells.now s.args.scenario.now.chemicals s.args.scenario.now.receptors.list _ s.args.out.now l.out part.new.part l.j here part.ensures l.invariant.1,
    )

pub shape_of-out : goal.shape_of-out
shape_of-out c = c.loop-j.invariant.0

pub returns : goal.returns
returns c =
    let s = c in
    let l = c.loop-j in
    let all : l.j ≡ s.args.scenario.now.receptors.count = omega (arith, c.loop-j-test.false) in
    let end : report_line_width * (s.args.scenario.now.chemicals.count * pathways_per_chemical + 1) * s.args.scenario.now.receptors.count ≡ report_line_width * (s.args.scenario.now.receptors.count * (s.args.scenario.now.chemicals.count * pathways_per_chemical + 1)) = omega arith in
    (rw all at l.invariant.1)
    ∙ ap (λ (k : ℕ). lines_text (report_in s.args.cells.now s.args.scenario.now.chemicals s.args.scenario.now.receptors.list s.args.scenario.now.receptors.count) ++ drop k s.args.out.now) end
