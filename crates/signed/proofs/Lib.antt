-- Laws of signed numbers.
pub mod Sizes
pub mod Quotients
