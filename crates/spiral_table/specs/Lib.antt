-- What the contracts of `spiral_table` cite.
pub mod UnitSpiralTable
pub mod LookUp
