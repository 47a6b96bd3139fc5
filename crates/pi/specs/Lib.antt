-- Cores, as the search keeps them: definitions only. What is proved of them stands in `proofs/`.
pub mod Cores
