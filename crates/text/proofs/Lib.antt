-- The crate's laws. `Rows` and `ReadBack` are what the crates above may count on. Assumes nothing.
pub mod Rows
pub mod ReadBack
