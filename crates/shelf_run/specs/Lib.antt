-- What `shelf` hands on: definitions only.
pub mod Runs
