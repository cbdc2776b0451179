-- What the contracts of `line_numbers` cite.
pub mod Numbers
