-- The sum so far. Assumes nothing.
use mathlib.Core.Path.{◌≡◌}
use Rattle.pair.specs.Calls.{answer}
use Rattle.equations.specs.Formula.{pairs}
use Rattle.composite.specs.Composite.{summed}
use Rattle.composite.specs.Inner.{weight_at}
use Rattle.composite.proofs.stages.Stages.weighted_sum.Given as goal

abbrev pub invariant-loop-j : goal.invariant-loop-j
invariant-loop-j l = answer l.sum ≡ summed pairs (weight_at l.self.records l.self.years l.k) l.j
