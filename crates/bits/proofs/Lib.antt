-- Laws on bytes and fields.
pub mod Bytes
pub mod Fields
pub mod Words
pub mod Examples
