-- An operand, or the step is refused; then each end is worked. Assumes nothing.
use mathlib.Core.Path.{◌≡◌, ◌∙◌, ap₂}
use mathlib.Core.Bool.{true}
use Rattle.pair.specs.Number.{is_pair}
use Rattle.pair.specs.Calls.{answer, ends, stepped}
use Rattle.pair.proofs.Providing.{failed, passed}
use Rattle.pair.proofs.Worked.{product_worked, quotient_worked}
use Rattle.pair.proofs.Steps.{operand_pair, divisor_above, not_operand}
use Rattle.pair.proofs.stepped.Goals as goal

pub returns-then-not-is_operand : goal.returns-then-not-is_operand
unfolding answer
returns-then-not-is_operand c = not_operand c.args.step c.args.p c.args.q (failed c.is_operand.ensures c.if-not-is_operand.true-raw)

pub returns-in-Times : goal.returns-in-Times
unfolding stepped
returns-in-Times c =
    let a = c.args in
    let k : is_pair a.q ≡ true = operand_pair a.step a.q (passed c.is_operand.ensures c.if-not-is_operand.false-raw) in
    rw c.in-Times.is (c.answered.ensures ∙ ap₂ ends c.product.ensures c.product-in-Times.ensures ∙ product_worked a.p a.q c.requires k)

pub returns-in-Over : goal.returns-in-Over
unfolding stepped
returns-in-Over c =
    let a = c.args in
    let o = passed c.is_operand.ensures c.if-not-is_operand.false-raw in
    rw c.in-Over.is
    (c.answered-in-Over.ensures ∙ ap₂ ends c.quotient.ensures c.quotient-in-Over.ensures ∙ quotient_worked a.p a.q c.requires (operand_pair a.step a.q o) (divisor_above a.step a.q c.in-Over.is o))
