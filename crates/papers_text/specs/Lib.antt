-- The lines of the papers: definitions only. What is proved of them stands in `proofs/`.
pub mod Words
pub mod Lines
