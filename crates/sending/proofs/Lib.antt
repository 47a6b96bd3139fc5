-- The laws of what `pull` prints of a built tree.
pub mod Lines
pub mod InnerNodes
pub mod Pulled
pub mod Final
pub mod Left
pub mod Sent
pub mod Lengths
pub mod Vectors
