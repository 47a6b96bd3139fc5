-- The laws of texts: digits, numbers after spaces, and what is written behind what.
pub mod Digits
pub mod Spaced
pub mod Writing
