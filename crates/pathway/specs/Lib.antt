-- What the crate `pathway` promises.
pub mod Lines
pub mod Inner
