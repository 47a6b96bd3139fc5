-- What the code, the C functions and the programs have to do with the demands: definitions only. What is proved of them stands in `proofs/`.
pub mod Tied
pub mod Free
pub mod Linked
pub mod Forms
