-- The laws of what is told of a table that is built.
pub mod Told
pub mod Lengths
pub mod Sent
