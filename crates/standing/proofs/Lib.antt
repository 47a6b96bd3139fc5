-- The laws of what may stand at a place of a text.
pub mod Tried
pub mod Names
pub mod Stops
pub mod Stands
