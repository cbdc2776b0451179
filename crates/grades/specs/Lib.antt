-- What the laws of `grades` cite, and the crates above.
pub mod Heights
