-- A node dropped from a body: definitions only. What is proved of them stands in `proofs/`.
pub mod Without
pub mod Drafts
