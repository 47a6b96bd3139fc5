-- What is told of a table that is built: definitions only. What is proved of them stands in `proofs/`.
pub mod Words
pub mod Built
pub mod Sent
