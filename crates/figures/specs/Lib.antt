-- What the crate `figures` states: the checked figures, and what calls on memory tell.
pub mod Figures
pub mod Memory
