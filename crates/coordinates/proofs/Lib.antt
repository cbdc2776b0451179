-- Laws of the line from points.
pub mod Counts
pub mod Accepted
pub mod Numbers
pub mod Changed
pub mod SameShape
pub mod ChangedLegs
pub mod MovedPoints
pub mod MirroredPoints
pub mod AnsweredLine
pub mod Examples
