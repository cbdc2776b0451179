-- The laws of `report`, and that its functions meet their contracts.
pub mod Digits
pub mod Pieces
pub mod Names
pub mod Lengths
pub mod WaysOut
pub mod Short
pub mod Examples
pub mod ReadBack
