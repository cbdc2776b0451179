-- Whole numbers and fractions.
pub mod Whole
pub mod Fractions
