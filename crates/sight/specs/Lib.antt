-- What the contracts of `heights` and the laws of `sight` cite.
pub mod Sight
pub mod Formulas
