-- Building one set into a draft, and the list of the sets that wait: definitions only. What is proved of them stands in `proofs/`.
pub mod Grows
pub mod Waiting
