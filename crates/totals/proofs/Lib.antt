-- The crate's laws. Assumes nothing.
pub mod TotalSums
