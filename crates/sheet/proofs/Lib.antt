-- The crate's laws: what is worked against what is defined, what cells hold, that 41 is not told (`SheetWithout`), demand 3 of a case
-- (`SheetDemandThree`), and that 2005 as the year is the same as none (`YearLaws`). Assumes nothing.
mod Clear
mod SourceLaws
mod ChemicalLaws
mod Chosen
mod ReceptorLaws
mod CellLaws
pub mod CountLaws
pub mod FaultLaws
pub mod Held
mod TotalLaws
mod LineTotals
pub mod YearLaws
pub mod SheetCaseLaws
pub mod SheetDemandThree
pub mod SheetWithout
pub mod TotalsTold
