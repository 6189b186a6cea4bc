-- What the crate `media` promises.
pub mod Media
pub mod Inner
