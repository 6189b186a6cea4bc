-- What the crate `cases` promises.
pub mod CaseConditions
pub mod Cases
pub mod Conditions
pub mod Ranged
pub mod Ranges
