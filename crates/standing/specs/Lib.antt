-- What may stand at a place of a text: definitions only. What is proved of them stands in `proofs/`.
pub mod Words
pub mod Expected
pub mod Stands
