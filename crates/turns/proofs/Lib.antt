-- Laws of the sine and the cosine from one second to the next, of the turn, and of the search for it.
pub mod NextTerm
pub mod Rising
pub mod Seconds
pub mod Bounds
pub mod OneTurn
pub mod Examples
