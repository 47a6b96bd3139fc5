-- Earned groups, node by node: definitions only. What is proved of them stands in `proofs/`.
pub mod Siblings
