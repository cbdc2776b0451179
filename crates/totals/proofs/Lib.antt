-- The laws of `totals`.
pub mod ListTotals
pub mod AddingUp
pub mod InRange
pub mod EndLessStart
pub mod Counts
pub mod Unused
pub mod Examples
