-- The laws of the unit spiral table.
pub mod EachEntry
pub mod AsElements
pub mod EndRanges
pub mod Examples
