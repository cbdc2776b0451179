-- Laws of profiles as numbers.
pub mod Sizes
pub mod NeverWrapped
pub mod Examples
