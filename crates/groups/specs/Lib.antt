-- A tree's groups as numbers, and asking: definitions only. What is proved of them stands in `proofs/`.
pub mod Groups
