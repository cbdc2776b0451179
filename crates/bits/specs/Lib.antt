-- Bytes as numbers, and fields in their bits.
pub mod Bits
