-- The crate's laws: every formula's pair reading is answered, holds the exact reading and is narrow. `LineLaws` is what the crates above
-- may count on, with `Profile`, the formulas' reading on profiles, `Guided`, `Pathways`, `AheadLaws`, `Limits`, `FastLaws`, `Plain`, `Rising`, `PageRefusals` and `Tail`'s `term_is`. Assumes nothing.
pub mod Profile
mod FormulaLaws
pub mod Plain
pub mod Guided
pub mod Pathways
pub mod AheadLaws
pub mod Tail
mod Sharper
mod SeriesTerms
mod SeriesLaws
pub mod EarlyStop
pub mod Limits
mod Large
pub mod FastLaws
mod GrowthLaws
pub mod LineLaws
pub mod Rising
pub mod PageRefusals
pub mod SeriesFigures
