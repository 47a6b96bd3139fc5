-- The line of a text that is refused: definitions only. What is proved of them stands in `proofs/`.
pub mod Words
pub mod Refused
