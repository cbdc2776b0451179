-- Laws of the largest number that passes a test, and of the whole root.
pub mod Largest
pub mod Newton
pub mod Examples
