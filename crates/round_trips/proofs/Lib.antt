-- What the calls of reader and writer give together (`Calls`), and laws on their refusals and on unused entries.
pub mod Numbers
pub mod FirstRefusal
pub mod Unused
pub mod Calls
