-- What the crate `answers` promises.
pub mod Answers
