-- The laws of cores, and of the search for an unforced triplet.
pub mod Cores
pub mod Unforced
