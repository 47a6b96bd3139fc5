-- What either build takes: definitions only. What is proved of them stands in `proofs/`.
pub mod GoodSet
