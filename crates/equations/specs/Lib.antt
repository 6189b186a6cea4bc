-- Document 01's equations: the formulas, once, and how they are read on pairs and on exact fractions.
pub mod Formula
pub mod Letters
pub mod Series
pub mod Page
pub mod Readings
pub mod Ahead
pub mod Ranges
