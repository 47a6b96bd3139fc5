-- Laws of reading blanks, digits, numbers and lengths.
pub mod Steps
pub mod Lengths
