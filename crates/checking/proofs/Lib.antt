-- The laws of checking.
pub mod Passing
pub mod Judged
