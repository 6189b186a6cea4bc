-- The checked figures and memories, shown. Assumes nothing.
pub mod CheckedFigures
pub mod MemoryFigures
