-- A value after another. Assumes nothing.
use mathlib.Core.Path.{◌≡◌, ap, ◌∙◌}
use mathlib.Core.List.{append-nil}
use native.Mathlib.Omega.{arith}
use Rattle.sizes.specs.Sizes.{slots_per_record}
use Rattle.pair.specs.Number.{one}
use Rattle.pair.specs.Calls.{one_pair, answer}
use Rattle.equations.specs.Formula.{pairs}
use Rattle.lists.specs.Lists.{tabulate}
use Rattle.lists.proofs.Tabulated.{filled_start, filled_more}
use Rattle.scenario.specs.Scenario.{or_no_pair}
use Rattle.composite.specs.Composite.{composed}
use Rattle.composite.specs.Inner.{stage_in, composed_in}
use Rattle.composite.proofs.stages.Stages.composed_values.Goals as goal

pub loop-k-init : goal.loop-k-init
unfolding one_pair one
loop-k-init c =
    let a = c.args in
    filled_start (λ i. or_no_pair (composed pairs (stage_in a.self.now.records) (answer a.exposure) a.self.now.last i)) one_pair slots_per_record

pub loop-k-preserved : goal.loop-k-preserved
loop-k-preserved c =
    let a = c.args in
    let l = c.loop-k in
    filled_more (λ i. or_no_pair (composed pairs (stage_in a.self.now.records) (answer a.exposure) a.self.now.last i)) one_pair slots_per_record l.k (omega (arith, c.loop-k-test.true)) l.list l.invariant c.or_no_pair.result
    (c.or_no_pair.ensures ∙ ap or_no_pair {y = composed pairs (stage_in a.self.now.records) (answer a.exposure) a.self.now.last l.k} c.composed_at.ensures)

pub returns : goal.returns
unfolding composed_in
returns c =
    let a = c.args in
    let all : c.loop-k.k ≡ slots_per_record = omega arith in
    (rw all at c.loop-k.invariant) ∙ append-nil (tabulate slots_per_record (λ i. or_no_pair (composed pairs (stage_in a.self.now.records) (answer a.exposure) a.self.now.last i)))
