-- Laws of a line by its numbers, and examples.
pub mod Filling
pub mod Storing
pub mod LineAndNumbers
pub mod Examples
