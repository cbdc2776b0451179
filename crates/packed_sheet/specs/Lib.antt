-- What the contracts of `sheet` and the laws on sheets cite.
pub mod Layout
pub mod Reading
pub mod Writing
pub mod EachStore
