-- Laws of lists and of truth values. Assumes nothing.
pub mod AnyList
pub mod AnyOf
pub mod Booleans
pub mod Chained
pub mod ListLaws
pub mod Placed
pub mod Tabulated
