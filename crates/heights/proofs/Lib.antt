-- Laws that the code of `heights` needs.
pub mod Passes
pub mod Carried
pub mod Ahead
