-- What `pull` prints of a built tree: definitions only. What is proved of them stands in `proofs/`.
pub mod Words
pub mod Pulls
pub mod Sends
