-- The laws of a cut tree's text.
pub mod Touching
pub mod Descending
pub mod InTurn
pub mod Theorems
pub mod Vectors
