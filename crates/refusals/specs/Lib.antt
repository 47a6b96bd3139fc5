-- Numbers and values handed back, and a reply that says them: definitions only. What is proved of them stands in `proofs/`.
pub mod Held
pub mod Told
pub mod Refusals
pub mod Replies
