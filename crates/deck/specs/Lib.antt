pub mod Parts
pub mod Guidance
pub mod Inner
pub mod DeckCase
pub mod DeckConditions
