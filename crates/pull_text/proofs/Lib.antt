-- The laws of what `pull` prints.
pub mod Told
pub mod Lengths
pub mod Input
pub mod Occurring
pub mod Refused
pub mod Theorems
