-- Entering a list of triplets: definitions only. What is proved of them stands in `proofs/`.
pub mod Enters
