-- The crate's laws: the report as it is written, demands 1 to 3 of document 01 (`DemandTwo`, `DemandThree`), that no call
-- tells 41 (`ReportNever`), that a deck of 2005 prints what it printed and what one of 2009 does (`ReportGuidance`), and that the rooms which a
-- program lends are large enough (`Rooms`). Assumes nothing.
mod Written
pub mod ReportLaws
pub mod CallLaws
pub mod Fitting
pub mod Exposures
pub mod DemandTwo
pub mod DemandThree
pub mod YearRows
pub mod ReportGuidance
pub mod ReportNever
pub mod Rooms
