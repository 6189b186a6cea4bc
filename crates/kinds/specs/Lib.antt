-- What the crate `kinds` promises.
pub mod Kinds
