-- The laws of where a text is refused.
pub mod NodePlaces
pub mod Bytes
pub mod Answers
pub mod Counts
pub mod Faults
