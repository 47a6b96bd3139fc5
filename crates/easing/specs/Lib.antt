-- What loosening comes to: definitions only. What is proved of them stands in `proofs/`.
pub mod Eases
pub mod Turns
