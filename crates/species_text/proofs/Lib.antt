-- The laws of lines of species and of trees.
pub mod Lengths
pub mod Rendered
