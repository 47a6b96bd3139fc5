-- The line of the check of a built tree: definitions only. What is proved of them stands in `proofs/`.
pub mod Words
pub mod Verdict
