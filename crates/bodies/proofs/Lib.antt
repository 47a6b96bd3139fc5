-- The laws of a tree's body: its rules, how the subtrees of its nodes lie, and from good nodes to their tree and back.
pub mod Good
pub mod Under
pub mod Drawn
pub mod NodeGroups
pub mod Laid
pub mod Back
pub mod Counts
pub mod Housed
pub mod Houses
pub mod Stores
pub mod Written
pub mod Puts
pub mod Preorder
