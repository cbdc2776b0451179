-- What the contracts of `report` cite.
pub mod Numbers
pub mod Text
pub mod Pieces
