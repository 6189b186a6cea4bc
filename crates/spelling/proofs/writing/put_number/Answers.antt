-- `spelling::writing::put_number` meets its contract: a part of some columns is filled with the number's. Assumes nothing.
use mathlib.Core.Path.{refl}
use Rattle.spelling.specs.Columns.{number_in, number}
use Rattle.spelling.proofs.Filling.{number_filled, columns_none, columns_some}
use Rattle.spelling.proofs.writing.put_number.Goals as goal

pub returns-then-part-eq0 : goal.returns-then-part-eq0
unfolding number_in
returns-then-part-eq0 c = columns_none c.args.part.now _ c.if-part-eq0.true

pub returns : goal.returns
unfolding number_in number
returns c =
    let a = c.args in
    let filled = c.fill in
    columns_some a.part.now _ filled.new.part c.if-part-eq0.false
    (number_filled filled.new.part _ _ a.n _ refl c.digit.ensures filled.ensures)
