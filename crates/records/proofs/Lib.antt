-- The laws of a list of records.
pub mod Records
pub mod Filling
pub mod Gathering
