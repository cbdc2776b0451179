-- Laws of the checks.
pub mod Walk
pub mod InRange
pub mod Unused
pub mod Entries
pub mod Sides
pub mod Numbers
pub mod SpeedTables
pub mod Examples
