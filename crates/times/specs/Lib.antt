-- What the crate `times` promises.
pub mod Times
