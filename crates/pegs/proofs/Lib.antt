-- Laws of the element under a station.
pub mod ElementLengths
pub mod Walking
pub mod PegsOfALine
pub mod OneElement
pub mod Unused
pub mod Examples
