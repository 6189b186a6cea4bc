-- What follows from the definitions, and signed powers as the code has them. Assumes nothing.
pub mod PowerLaws
pub mod Signed
