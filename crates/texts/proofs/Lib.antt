-- Laws of the texts of an input.
pub mod Texts
