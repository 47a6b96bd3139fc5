-- A tree's body: its nodes, the tree rules and their faults, and the tree that it draws: definitions only.
pub mod Nodes
pub mod Draws
