-- Text: definitions only. What is proved of them stands in `proofs/`.
pub mod Pages
pub mod Texts
