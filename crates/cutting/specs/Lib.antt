-- A cut tree as text: definitions only. What is proved of them stands in `proofs/`.
pub mod Texts
pub mod Descends
