-- What the contracts and the laws of `pegs` cite.
pub mod Pegs
pub mod Numbers
pub mod OneElement
pub mod Steps
