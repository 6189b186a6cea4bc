-- The crate's laws: a refusal's numbers, written one after the other. Assumes nothing.
mod ThreeNumbers
