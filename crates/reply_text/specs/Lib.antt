-- The text of a reply: definitions only. What is proved of it stands in `proofs/`.
pub mod Text
