-- `text::lines::put_dash` meets its contract: the part that is lent comes back as spaces and a lone -. Assumes nothing.
use mathlib.Core.Path.{◌≡◌, ◌∙◌}
use Prim.Native.Nat.{◌+◌, ◌-◌}
use native.Mathlib.Omega.{arith}
use borrow.Rule.Slice.PartMut.{mid_len}
use Rattle.spelling.proofs.Filling.{dash_in_lem, length_justified}
use Rattle.spelling.specs.Columns.{dash}
use Rattle.lists.proofs.Placed.{placed_part}
use Rattle.text.proofs.lines.put_dash.Goals as goal

pub returns : goal.returns
returns c =
    let s = c in
    let a = s.args in
    let line = a.line.now in
    let part = c.put_dash in
    let wide : a.at + a.width - a.at ≡ a.width = omega arith in
    placed_part line part.new.part _ a.at a.width
    (dash_in_lem _ part.new.part a.width (mid_len a.at (a.at + a.width) line s.requires.1 ∙ wide) s.requires.0 part.ensures)
    (length_justified a.width dash s.requires.0)
