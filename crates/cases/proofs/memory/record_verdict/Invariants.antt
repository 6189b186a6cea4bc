-- No slot so far stops. Assumes nothing.
use mathlib.Core.Path.{◌≡◌}
use Rattle.lists.specs.Lists.{chained}
use Rattle.slots.specs.Slots.{rule_at}
use Rattle.slots.specs.declared.Sort.TheVariants.{Ordinary}
use Rattle.cases.specs.Cases.{value_at}
use Rattle.cases.specs.Conditions.{passed, first}
use Rattle.cases.specs.CaseConditions.{slot_conditions}
use Rattle.cases.proofs.memory.record_verdict.Given as goal

abbrev pub invariant-loop-k : goal.invariant-loop-k
invariant-loop-k l = first (chained (λ n. slot_conditions (rule_at Ordinary l.owner n) (value_at l.r n)) l.k) ≡ passed
