-- Laws of sizes, of single checks, and of checks one after the other.
pub mod Sizes
pub mod Checked
pub mod MadeInTurn
pub mod InReach
pub mod Filling
