-- The sum so far. Assumes nothing.
use mathlib.Core.Path.{◌≡◌}
use Rattle.composite.specs.Composite.{years_together}
use Rattle.composite.specs.Inner.{time_in}
use Rattle.composite.proofs.stages.Stages.time_exposed.Given as goal

abbrev pub invariant-loop-j : goal.invariant-loop-j
invariant-loop-j l = l.sum ≡ years_together (time_in l.self.records) l.j
