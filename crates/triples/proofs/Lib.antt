-- The laws of triples and of their indices.
pub mod Indices
pub mod Values
pub mod Names
pub mod Find
pub mod Search
pub mod Tries
