-- The runs hold.
pub mod Hold
pub mod Paper
