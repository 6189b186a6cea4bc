-- What the crate `totals` promises.
pub mod Totals
