-- The laws of a tree's text.
pub mod InTurn
pub mod Lengths
pub mod Forms
pub mod Texts
pub mod Vectors
