-- The values so far, then 1. Assumes nothing.
use mathlib.Core.Path.{◌≡◌}
use mathlib.Core.List.{◌++◌}
use Prim.Native.Nat.{◌-◌}
use lib.ListN.{replicate}
use Rattle.sizes.specs.Sizes.{slots_per_record}
use Rattle.pair.specs.Calls.{one_pair, answer}
use Rattle.equations.specs.Formula.{pairs}
use Rattle.lists.specs.Lists.{tabulate}
use Rattle.scenario.specs.Scenario.{or_no_pair}
use Rattle.composite.specs.Composite.{composed}
use Rattle.composite.specs.Inner.{stage_in}
use Rattle.composite.proofs.stages.Stages.composed_values.Given as goal

abbrev pub invariant-loop-k : goal.invariant-loop-k
invariant-loop-k l = l.list ≡ tabulate l.k (λ i. or_no_pair (composed pairs (stage_in l.self.records) (answer l.exposure) l.self.last i)) ++ replicate (slots_per_record - l.k) one_pair
