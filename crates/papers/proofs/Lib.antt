-- Laws of reading the papers.
pub mod Bodies
pub mod Stores
pub mod Bundles
pub mod Turns
pub mod Outcomes
pub mod Theorems
pub mod Vectors
