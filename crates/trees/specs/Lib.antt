-- Rooted trees, triplets, links, building and the check: definitions only. What is proved of them stands in `proofs/`.
pub mod Trees
pub mod Triplets
pub mod Links
pub mod Aho
pub mod Build
pub mod Veto
pub mod Held
pub mod Check
pub mod Induced
pub mod Loosen
pub mod Cut
pub mod Combinations
pub mod Visits
