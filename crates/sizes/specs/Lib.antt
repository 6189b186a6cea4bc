-- The numbers that the crates share.
pub mod Sizes
