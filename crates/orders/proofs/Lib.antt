-- Theorems on the row of stations and on the calculator's refusals.
pub mod Numbers
pub mod Unused
pub mod InOrder
pub mod Replies
pub mod FirstRefusal
pub mod RowNumbers
