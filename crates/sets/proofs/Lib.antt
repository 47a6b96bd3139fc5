-- The laws of sets of species. `Least` has those of `lowest` and `rest`.
pub mod Bools
pub mod Members
pub mod Digits
pub mod Tests
pub mod Sizes
pub mod Least
pub mod Ordered
pub mod Forms
pub mod Zeros
pub mod Facts
pub mod Floods
