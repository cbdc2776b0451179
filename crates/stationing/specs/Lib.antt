-- What the contracts of `calculator` and the laws on stations cite.
pub mod RoadTables
pub mod Stations
pub mod Answer
pub mod Arrays
pub mod LineElements
