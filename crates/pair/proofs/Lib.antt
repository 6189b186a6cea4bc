-- The crate's laws. `Promises` is what the crates above may count on, with `Refusals`, `Widths` and `Profiles`. Assumes nothing.
mod Exponents
mod Powers
mod Excess
mod Dividing
mod Rounds
mod Numbers
mod Shares
mod Alignment
mod Sums
mod Counts
mod Providing
pub mod Refusals
mod Ordered
mod Fractions
mod Nearest
mod ExactEnds
mod Rests
mod Keeps
mod Answers
mod Sizes
pub mod Promises
mod Worked
mod Steps
pub mod Partials
mod Raising
pub mod ChainPromises
pub mod Settling
pub mod Widths
pub mod Profiles
pub mod PairFigures
