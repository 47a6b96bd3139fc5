-- The laws of triples that reach outside a set.
pub mod Reaching
