-- What the crate `sheet` promises: a scenario's lines' counts and totals, its calls, and demand 3 of a case.
pub mod Sheet
pub mod Counts
pub mod DemandThree
pub mod Inner
