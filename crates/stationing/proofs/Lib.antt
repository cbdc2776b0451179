-- Laws of the stations that the proofs of `calculator` cite, and single lines by computation.
pub mod Fronts
pub mod CurveSteps
pub mod StraightSteps
pub mod RowSteps
pub mod RowCount
pub mod Accepted
pub mod FormerST
pub mod ElementsAndStations
pub mod Examples
