-- The laws of the converter: the same line, there and back, every sheet of edition 1; its refusals; and the calls together.
pub mod Accepted
pub mod SameLine
pub mod ThereAndBack
pub mod EveryFirst
pub mod Refusals
pub mod Written
pub mod WaysOut
pub mod Calls
pub mod Examples
