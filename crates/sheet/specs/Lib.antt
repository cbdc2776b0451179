-- What the contracts of `sheet`'s private functions cite.
pub mod Handled
pub mod Pens
