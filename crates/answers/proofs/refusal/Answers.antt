-- `answers::refusal` meets its contract: three numbers written into nineteen line feeds, one after the other. Assumes nothing.
use native.Mathlib.Omega.{arith}
use lib.ListN.{length-append}
use Rattle.answers.specs.Answers.{refusal_text}
use Rattle.answers.proofs.ThreeNumbers.{second_long, third}
use Rattle.answers.proofs.refusal.Goals as goal

pub slice_bounds-text-end-2 : goal.slice_bounds-text-end-2
slice_bounds-text-end-2 c = simp length-append (omega (arith, c.put_number.auto.part))

pub slice_bounds-text-end-3 : goal.slice_bounds-text-end-3
slice_bounds-text-end-3 c =
    let b = c in
    omega (arith, second_long _ _ b.put_number.new.part c.put_number-2.new.part b.put_number.ensures c.put_number-2.ensures)

pub returns : goal.returns
unfolding refusal_text
returns c =
    let b = c in
    third _ _ b.put_number.new.part c.put_number-2.new.part b.put_number.ensures c.put_number-2.ensures
    c.put_number-3.new.part _ c.put_number-3.ensures
