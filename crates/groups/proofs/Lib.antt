-- The laws of groups as numbers, of smallest common groups, and of asking.
pub mod Common
pub mod Asked
pub mod Meant
pub mod Cells
pub mod Passes
pub mod Latest
