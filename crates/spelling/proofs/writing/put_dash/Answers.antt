-- `spelling::writing::put_dash` meets its contract: a part of some columns is filled with spaces and a lone -. Assumes nothing.
use mathlib.Core.Path.{refl}
use Rattle.spelling.specs.Columns.{dash_in}
use Rattle.spelling.proofs.Filling.{byte_filled, columns_none, columns_some}
use Rattle.spelling.proofs.writing.put_dash.Goals as goal

pub returns-then-part-eq0 : goal.returns-then-part-eq0
unfolding dash_in
returns-then-part-eq0 c = columns_none c.args.part.now _ c.if-part-eq0.true

pub returns : goal.returns
unfolding dash_in
returns c =
    let a = c.args in
    let filled = c.fill in
    columns_some a.part.now _ filled.new.part c.if-part-eq0.false (byte_filled filled.new.part _ _ 45 refl filled.ensures)
