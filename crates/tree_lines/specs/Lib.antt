-- The lines of calls on trees: definitions only.
pub mod Lines
