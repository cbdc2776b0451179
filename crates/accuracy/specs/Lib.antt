-- What the laws of `accuracy` cite.
pub mod ExactElements
pub mod ExactStations
pub mod Accuracy
pub mod ExactOffsets
pub mod NearestMicrometre
pub mod ExactLookUp
