-- Subtrees of a Newick text: definitions only. What is proved of them stands in `proofs/`.
pub mod Subtrees
