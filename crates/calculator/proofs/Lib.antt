-- Laws of a line's lengths.
pub mod DesignSpeeds
pub mod LengthsKnown
pub mod Examples
