-- The runs of document 01, "Small runs to compare", that speak of tables, the build and the check.
pub mod Runs
pub mod Paper
