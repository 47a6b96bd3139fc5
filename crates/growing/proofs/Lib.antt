-- The laws of growing: the parts of a set as a list of numbers, what is still to be written of a node's children, the list of the sets that wait, the loop over the parts, the loop over the species of a joined set.
pub mod Numbered
pub mod Finish
pub mod Waiting
pub mod Steps
pub mod Leaves
