-- The crate's laws. `TimePromises` is what the crates above may count on. Assumes nothing.
pub mod TimeDigits
pub mod TimePromises
pub mod TwoWords
