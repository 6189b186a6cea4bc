-- The crate's laws: the composite as it is worked is the one that is defined, its values are in range of the exact composite's, and so its
-- report has demands 1 to 3 (`Demands`); a deck of 2005 prints what it printed, one of 2009 what 2009 asks (`CompositeGuidance`); and the rooms
-- which a program lends are large enough (`CompositeRooms`). Assumes nothing.
mod StageLaws
mod Weighing
pub mod Demands
pub mod CompositeGuidance
pub mod StageTimes
pub mod CompositeRooms
