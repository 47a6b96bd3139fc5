-- Loosening a tree: definitions only.
pub mod Loosens
