-- The sum so far. Assumes nothing.
use mathlib.Core.Path.{◌≡◌}
use Rattle.pair.specs.Calls.{answer}
use Rattle.equations.specs.Formula.{pairs}
use Rattle.composite.specs.Composite.{summed}
use Rattle.composite.specs.Inner.{year_at}
use Rattle.composite.proofs.stages.Stages.sum_of_years.Given as goal

abbrev pub invariant-loop-j : goal.invariant-loop-j
invariant-loop-j l = answer l.sum ≡ summed pairs (year_at l.self.years) l.j
