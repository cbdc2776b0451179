-- What the contracts of `heights` and the laws of `profile` cite.
pub mod Vertices
pub mod Checks
pub mod HeightAt
pub mod Checked
pub mod HeightLaws
pub mod Alike
