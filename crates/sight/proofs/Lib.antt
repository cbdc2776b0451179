-- Laws of sight.
pub mod PublishedLengths
pub mod RoundedUp
pub mod Examples
