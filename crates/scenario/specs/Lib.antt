-- What the crate `scenario` promises.
pub mod Scenario
