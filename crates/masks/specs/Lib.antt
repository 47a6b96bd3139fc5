-- The entered triplets on the triples that a tree resolves, as masks: definitions only. What is proved of them stands in `proofs/`.
pub mod Masks
pub mod Filling
