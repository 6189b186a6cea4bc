-- `text::lines::put_number` meets its contract: the part that is lent comes back as the number's columns. Assumes nothing.
use mathlib.Core.Path.{◌≡◌, ◌∙◌}
use Prim.Native.Nat.{◌+◌, ◌-◌}
use native.Mathlib.Omega.{arith}
use borrow.Rule.Slice.PartMut.{mid_len}
use Rattle.spelling.proofs.Filling.{number_in_lem, length_number}
use Rattle.lists.proofs.Placed.{placed_part}
use Rattle.text.proofs.lines.put_number.Goals as goal

pub returns : goal.returns
returns c =
    let s = c in
    let a = s.args in
    let line = a.line.now in
    let part = c.put_number in
    let wide : a.at + a.width - a.at ≡ a.width = omega arith in
    placed_part line part.new.part _ a.at a.width
    (number_in_lem _ part.new.part a.width (mid_len a.at (a.at + a.width) line s.requires.1 ∙ wide) s.requires.0 a.n part.ensures)
    (length_number a.width a.n s.requires.0)
