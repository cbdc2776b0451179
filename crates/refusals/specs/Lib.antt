-- What the contracts of `refusals` cite.
pub mod Table
pub mod Outcomes
pub mod Order
pub mod Filling
pub mod Replying
