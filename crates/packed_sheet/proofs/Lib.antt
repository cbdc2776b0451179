-- Laws of sheets, the theorem that reader and writer undo each other (`RoundTrip`), and single sheets by computation.
pub mod Fitting
pub mod Frames
pub mod LineSteps
pub mod WaysOut
pub mod SoFar
pub mod EachStore
pub mod WrittenAgain
pub mod ReadAgain
pub mod Editions
pub mod FieldGroups
pub mod RoundTrip
pub mod Examples
