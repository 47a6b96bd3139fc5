-- The named form of entering: definitions only. What is proved of them stands in `proofs/`.
pub mod Spelled
