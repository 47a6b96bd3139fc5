-- The laws of the lines of the papers.
pub mod Bodies
pub mod Lines
pub mod Shared
pub mod Lengths
pub mod Vectors
