-- The crate's laws, which the crates above may count on. Assumes nothing.
pub mod CaseConditionLaws
pub mod Complete
pub mod FirstMet
pub mod FitsLaws
pub mod GuidanceLaws
pub mod RangeLaws
pub mod ZeroLaws
