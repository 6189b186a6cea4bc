-- What the crate `text` promises.
pub mod Text
