-- The laws of a body without one of its nodes.
pub mod Numbering
pub mod ManyChildren
pub mod LeftOut
pub mod Without
pub mod Held
pub mod Drops
