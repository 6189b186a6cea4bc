-- What the crate `report` promises: what a call that prints a form tells and writes, the report, the call on a scenario in memory, demands 1 to 3 of a deck,
-- what a deck of 2005 and one of 2009 print, and the rooms that a program lends.
pub mod Forms
pub mod Report
pub mod DemandTwo
pub mod DemandThree
pub mod Guidance
pub mod InMemory
pub mod Inner
pub mod Rooms
