-- Splitting a set of species into its connected parts: definitions only. What is proved of them stands in `proofs/`.
pub mod Split
pub mod Rows
