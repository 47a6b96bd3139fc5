-- Newick text, as request T-01 takes it: definitions only. What is proved of them stands in `proofs/`.
pub mod Form
pub mod Signs
pub mod Place
pub mod Within
pub mod Scan
pub mod Texts
