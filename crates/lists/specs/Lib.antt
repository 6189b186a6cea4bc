-- Lists that the laws of this crate are of.
pub mod Lists
