-- What `pull` prints: definitions only. What is proved of them stands in `proofs/`.
pub mod Words
pub mod Pull
pub mod Outcomes
