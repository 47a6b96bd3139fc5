-- One more than the highest species: definitions only. What is proved of them stands in `proofs/`.
pub mod Bound
