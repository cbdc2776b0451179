-- What the contracts of `calculator` cite beside those of `stationing`.
pub mod Lengths
