-- The crate's laws: the number that digits spell, and small numbers with a sign. Assumes nothing.
mod Spelled
pub mod Signs
