-- The crate's laws. Assumes nothing.
mod Passing
mod Moderate
mod Sofar
mod Growing
mod Soils
pub mod Means
pub mod MediaFigures
