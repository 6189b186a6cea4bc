-- The rooms that a program lends to the composite call are large enough: its report has one receptor. Assumes nothing.
use Prim.Native.Nat.{ℕ, ◌≤◌}
use native.Mathlib.Nat.{le_refl}
use Rattle.report.specs.Forms.{scenario_of}
use Rattle.report.specs.Rooms.{longest_for, Rooms}
use Rattle.report.proofs.Rooms.{rooms_of}
use Rattle.scenario.specs.Scenario.{scenario_with}
use Rattle.composite.specs.Composite.{composite_from, composite, Composed}
use Rattle.composite.proofs.Demands.{composite_sounds}

pub rooms : Rooms composite (longest_for 1)
unfolding scenario_of scenario_with composite_from composite
rooms = rooms_of composite Composed composite_sounds 1 (λ deck e. le_refl 1)
