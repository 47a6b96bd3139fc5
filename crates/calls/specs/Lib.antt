-- How a call is written: definitions only. What is proved of them stands in `proofs/`.
pub mod Calls
