-- What the contracts of `pokyandi` cite.
pub mod Answers
pub mod Calls
