-- What the proofs of several functions use, and that no function returns 41 (`CallsNever`). Assumes nothing.
mod Fields
pub mod CallsNever
