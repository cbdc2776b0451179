-- The deflection of two legs, and what a search for it knows.
pub mod Turn
pub mod Search
