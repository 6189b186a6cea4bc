-- The crate's laws: a case in range makes a sound scenario (`Sound`, `Entered`). Assumes nothing.
pub mod Arrays
pub mod DepositionLaws
pub mod Entered
pub mod InputLaws
pub mod PageLetters
pub mod Sound
pub mod ValueLaws
