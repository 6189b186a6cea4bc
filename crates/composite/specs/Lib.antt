-- What the crate `composite` promises: one person made of the life stages that a deck's receptors are, and demands 1 to 3 of its report.
pub mod Composite
pub mod Inner
