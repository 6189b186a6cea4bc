-- The table of slots (document 01, "Deck").
pub mod Slots
