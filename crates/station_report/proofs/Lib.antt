-- The laws of `station_report`.
pub mod Texts
pub mod Fits
pub mod ReadThenCalculated
pub mod DocumentCases
pub mod Examples
