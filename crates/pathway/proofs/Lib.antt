-- The crate's laws. `Carried`, `HabitLaws` and `AirLaws` are what the crates above may count on. Assumes nothing.
pub mod Carried
pub mod HabitLaws
mod FigureLaws
pub mod AirLaws
