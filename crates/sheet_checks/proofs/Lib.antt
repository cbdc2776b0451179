-- The laws of a sheet's checks.
pub mod ReadThenCalculated
pub mod Numbers
pub mod Examples
