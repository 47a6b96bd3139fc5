-- The laws of masks.
pub mod Growth
pub mod Triples
pub mod Links
