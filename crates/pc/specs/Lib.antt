-- What contradicts a tree on three species: definitions only. What is proved of it stands in `proofs/`.
pub mod Contrary
