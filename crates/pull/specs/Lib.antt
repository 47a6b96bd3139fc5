-- What `pull` hands on: definitions only.
pub mod Runs
