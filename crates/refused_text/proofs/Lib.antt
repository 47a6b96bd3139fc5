-- The laws of the line of a text that is refused.
pub mod Lengths
