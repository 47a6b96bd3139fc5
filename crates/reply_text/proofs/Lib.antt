-- The laws of the text of a reply: what the pieces of a line come to, and how long a line is.
pub mod Pieces
pub mod Lengths
