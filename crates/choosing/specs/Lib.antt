-- Which line a call gets: definitions only.
pub mod Chosen
