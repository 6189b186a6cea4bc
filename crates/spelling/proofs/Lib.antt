-- The crate's laws, which the crates above may count on. Assumes nothing.
pub mod DigitLaws
pub mod DigitsHeld
pub mod Filling
pub mod Leading
pub mod NumberRead
pub mod WordLaws
