-- Lines of species and of trees: definitions only. What is proved of them stands in `proofs/`.
pub mod Lines
