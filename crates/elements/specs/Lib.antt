-- What the contracts and the laws of `elements` cite.
pub mod WorkingRule
pub mod Answer
pub mod SpiralElements
pub mod SpiralPoint
pub mod TurnAngle
