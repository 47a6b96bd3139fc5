-- From the input of `pull` to the papers' collection: definitions only. What is proved of them stands in `proofs/`.
pub mod Bundled
pub mod Reads
pub mod OneText
pub mod Papers
