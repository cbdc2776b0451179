-- What the private steps of `points` promise.
pub mod Reach
pub mod Steps
