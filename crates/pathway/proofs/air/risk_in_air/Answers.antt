-- What the products answer. Assumes nothing.
use mathlib.Core.Path.{◌≡◌, refl, sym, ◌∙◌, ap}
use borrow.Author.Rules.{rules}
use lib.IntN.{pos}
use Rattle.slots.specs.Slots.{same}
use Rattle.equations.specs.Formula.{read, pairs}
use Rattle.equations.specs.Readings.{letters, plain_with, plain}
use Rattle.equations.specs.Ahead.{of_two}
use Rattle.equations.specs.Page.{air_figure_by}
use Rattle.pair.specs.declared.Pair.{Pair}
use Rattle.pair.specs.Calls.{Outcome, is, refused, answer, after, mapped, product, entry}
use Rattle.pathway.specs.Lines.{air_figure_of}
use Rattle.pathway.proofs.air.risk_in_air.Goals as goal

worked : (x r : Pair) {a b e m u : Outcome Pair} → a ≡ is x → e ≡ entry 1000 (pos 0) → m ≡ after product a e → b ≡ is r → u ≡ after product m b → u ≡ after product (after product (is x) (entry 1000 (pos 0))) (is r)
worked x r h1 h2 h3 h4 h5 = cc

pub returns-in_err-times : goal.returns-in_err-times
unfolding answer mapped air_figure_by of_two plain plain_with read letters pairs same air_figure_of
returns-in_err-times c =
    let k = worked c.args.exposure.0 c.args.unit_risk.0 c.answer.ensures c.entry.ensures c.times-micrograms.ensures c.answer-2.ensures c.times.ensures in
    let e : refused 53 ≡ after product (after product (is c.args.exposure.0) (entry 1000 (pos 0))) (is c.args.unit_risk.0) = sym (ap answer c.in_err-times.was) ∙ k in
    rw (← e) (search rules)

pub returns : goal.returns
unfolding answer mapped air_figure_by of_two plain plain_with read letters pairs same air_figure_of
returns c =
    let k = worked c.args.exposure.0 c.args.unit_risk.0 c.answer.ensures c.entry.ensures c.times-micrograms.ensures c.answer-2.ensures c.times.ensures in
    let e : is c.in_ok-times.field-0 ≡ after product (after product (is c.args.exposure.0) (entry 1000 (pos 0))) (is c.args.unit_risk.0) = sym (ap answer c.in_ok-times.was) ∙ k in
    rw (← e) refl
