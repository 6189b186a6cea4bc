-- What the library's calls promise.
pub mod Text
pub mod Trials
