-- Laws of outcomes.
pub mod Joining
pub mod InTurn
pub mod InOrder
pub mod Numbers
pub mod Filled
pub mod FillWays
pub mod Replied
pub mod Examples
