-- Laws of the calls for C and Rust.
pub mod Replies
pub mod ReadAndWrite
pub mod ConvertedBack
pub mod Elements
pub mod AnswersTold
pub mod Examples
pub mod PointsToStations
