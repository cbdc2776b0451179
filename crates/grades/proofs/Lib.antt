-- Laws of heights on grades and in vertical curves.
pub mod TwoFloors
pub mod FromEnd
pub mod Meeting
pub mod Sides
