-- The table of entered triplets: definitions only. What is proved of them stands in `proofs/`.
pub mod Bytes
pub mod Filled
pub mod Adds
pub mod Tells
