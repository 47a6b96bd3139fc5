-- How standard input is read: definitions only. What is proved of them stands in `proofs/`.
pub mod Inputs
