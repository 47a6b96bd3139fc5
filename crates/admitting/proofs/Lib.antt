-- The laws of what either build takes.
pub mod Chosen
