-- The lines of calls on collections and tables: definitions only.
pub mod Lines
