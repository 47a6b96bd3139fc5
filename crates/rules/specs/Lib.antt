-- The rules of a body, and the first that is broken: definitions only. What is proved of them stands in `proofs/`.
pub mod Faults
