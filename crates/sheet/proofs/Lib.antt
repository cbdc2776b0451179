-- Laws that the proofs of the writer cite.
pub mod Handled
pub mod Pens
pub mod WaysOut
pub mod Putting
