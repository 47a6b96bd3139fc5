-- Triples and their indices: definitions only. What is proved of them stands in `proofs/`.
pub mod Index
pub mod Find
pub mod Finds
pub mod Named
pub mod Tries
