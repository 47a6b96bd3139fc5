-- The laws of reading.
pub mod Reading
