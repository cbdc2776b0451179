-- Laws of profiles.
pub mod InRange
pub mod Bounds
pub mod Walk
pub mod Numbers
pub mod Prolonged
pub mod HeightLaws
pub mod Unused
pub mod Examples
