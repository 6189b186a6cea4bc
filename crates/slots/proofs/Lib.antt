-- What follows from the table of slots.
pub mod SlotLaws
