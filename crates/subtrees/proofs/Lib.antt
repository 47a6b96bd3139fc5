-- Laws of reading subtrees, and a whole text.
pub mod Subtrees
pub mod Wholes
