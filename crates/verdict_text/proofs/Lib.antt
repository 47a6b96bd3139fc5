-- The laws of the line of the check.
pub mod Told
pub mod Triples
pub mod Said
pub mod Vectors
