-- Each test in turn. Assumes nothing.
use mathlib.Core.Path.{sym, ◌∙◌}
use Rattle.scenario.specs.Scenario.{unpaired_in}
use Rattle.scenario.proofs.Scenario.is_unpaired.Goals as goal
use Rattle.scenario.proofs.Scenario.is_unpaired.Goals.{then-untimed, else-untimed}

pub returns-then-unpaired : goal.returns-then-unpaired
unfolding unpaired_in
returns-then-unpaired c =
    elim c.if-untimed.branch [
      | then-untimed w ↦ rw (sym c.untimed.ensures ∙ w.if-untimed.true) c.if-unpaired.true
      | else-untimed w ↦ rw (sym c.untimed.ensures ∙ w.if-untimed.false, sym w.unpaired.ensures ∙ sym w.value-is ∙ c.if-unpaired.true) c.if-unpaired.true
    ]

pub returns-else-unpaired : goal.returns-else-unpaired
unfolding unpaired_in
returns-else-unpaired c =
    elim c.if-untimed.branch [
      | then-untimed w ↦ cc
      | else-untimed w ↦ rw (sym c.untimed.ensures ∙ w.if-untimed.false, sym w.unpaired.ensures ∙ sym w.value-is ∙ c.if-unpaired.false) c.chemicals_unpaired.ensures
    ]
