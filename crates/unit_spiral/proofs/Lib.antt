-- What the program prints.
pub mod PrintedText
