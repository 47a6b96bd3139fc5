-- Reading Newick text into a body: definitions only. What is proved of them stands in `proofs/`.
pub mod Parses
