-- What the crate `zilmorga` promises.
pub mod Numbers
pub mod Calls
pub mod Never
