-- The laws of PC, triple by triple.
pub mod Contradicted
