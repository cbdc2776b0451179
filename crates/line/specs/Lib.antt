-- What the contracts and the laws of `line` cite.
pub mod Checks
pub mod Ranges
pub mod Entries
pub mod Speeds
