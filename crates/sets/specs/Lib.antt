-- Sets of species: as tests, and as 64-bit numbers.
pub mod Species
pub mod Sets
pub mod Walks
pub mod Floods
