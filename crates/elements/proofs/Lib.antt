-- Laws of the working rule, and document 01's examples.
pub mod Rounding
pub mod Alternating
pub mod SineAndCosine
pub mod UnitSpiral
pub mod TurnAngles
pub mod Bounds
pub mod SpiralPoints
pub mod Arc
pub mod Computed
pub mod Replies
pub mod Examples
