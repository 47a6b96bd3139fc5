-- The laws of the rules of a body.
pub mod Rules
