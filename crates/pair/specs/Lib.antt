-- What the crate `pair` promises, in the order of document 01's section "Pairs".
pub mod Fraction
pub mod Number
pub mod Rounding
pub mod Calls
pub mod Inner
pub mod Promises
pub mod Figures
