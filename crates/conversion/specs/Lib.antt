-- What the contract of `conversion` cites.
pub mod Conversion
