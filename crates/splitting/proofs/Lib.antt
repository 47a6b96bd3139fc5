-- The laws of splitting: rows of links and stores into them, walks over the species of a set, giving every link to the other row, the links that
-- the triples give, how many triples are looked at, and the parts that are still to come.
pub mod Stores
pub mod Walks
pub mod Mirroring
pub mod Linking
pub mod Counting
pub mod Coming
