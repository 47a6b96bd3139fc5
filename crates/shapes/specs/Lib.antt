-- What follows the byte of a call, and numbers as bytes: definitions only. What is proved of them stands in `proofs/`.
pub mod Numbers
pub mod Shapes
