-- The laws of the table.
pub mod Places
pub mod Bytes
pub mod Limits
pub mod Fillings
pub mod Adding
pub mod Telling
pub mod Known
