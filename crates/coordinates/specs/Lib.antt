-- What the contract of the call for a line from points and its laws cite.
pub mod Legs
pub mod FromPoints
pub mod Moves
pub mod AnsweredLine
