-- What the crate `spelling` promises.
pub mod Columns
pub mod Spelling
