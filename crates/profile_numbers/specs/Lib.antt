-- What the contracts of `profile_numbers` cite.
pub mod Numbers
pub mod Fields
