-- What the contracts of `totals` cite.
pub mod Totals
