-- How many bytes are looked at.
pub mod Looked
