-- What the crate `powers` promises.
pub mod Powers
