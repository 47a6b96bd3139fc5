-- Laws of reading Newick text.
pub mod Texts
