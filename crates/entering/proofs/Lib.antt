-- The laws of entering.
pub mod Entering
