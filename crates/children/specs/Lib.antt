-- The children of a node by their species: definitions only. What is proved of them stands in `proofs/`.
pub mod Children
pub mod Walks
