-- Triples that reach outside a set: definitions only. What is proved of them stands in `proofs/`.
pub mod Reaches
