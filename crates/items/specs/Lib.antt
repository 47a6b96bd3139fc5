-- The items of a field: definitions only.
pub mod Items
